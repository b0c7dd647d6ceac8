-- The runs of two machines from a start that need not be a state of rest.
use Rattle.std.proofs.Common.{◌≡◌, ℕ, ◌+◌, ◌-◌, ◌*◌, ◌≤◌, IsTrue, Option, Some, ap, sym, ◌∙◌, arith}
use Rattle.std.proofs.Math.Nat.{mul-add, mul-le-mul_left}
use Rattle.std.specs.List.{sum_by}
use Rattle.run_definition.specs.Question.{Question}
use Rattle.run_definition.specs.Answer.{Answer, answer_fits}
use Rattle.run_definition.specs.Run.{run_of}
use Rattle.run_simulation_laws.specs.Trail.{trail_of}
use Rattle.run_simulation_laws.specs.Turns.{Tally, Pair, LawOfTurn, LawOfMarks}
use Rattle.run_simulation_laws.specs.Runs.{SameRuns, allowance}
use Rattle.run_simulation_laws.proofs.Rounds.{Round}
use Rattle.run_simulation_laws.proofs.Comparing.{forth_round, back_round, count_round, compared}
use Rattle.run_simulation_laws.proofs.Marking.{MarkedRun, mark_round, marked}

-- the same machines and marks, counted otherwise
abbrev pub counted_by : {G J I L : Type 0} → Pair G J I → (L → Tally G J) → Pair G J L
counted_by p tally = record { guest = p.guest; classes = p.classes; tally = tally; marked = p.marked }

module _ {G J I L K : Type 0} (p : Pair G J I) (tally : L → Tally G J) (reply : K → Question → Option (Answer × K)) (Rests : G → J → Type 0) (most start : ℕ) (law : LawOfTurn p Rests most) (fitting : (k l : K) (q : Question) (a : Answer) → reply k q ≡ Some (a, l) → IsTrue (answer_fits a q)) (g : G) (j : J) (k : K) (r : Round (counted_by p tally) reply Rests (λ n. start + 2 * most) g j k) where
  -- the allowance, less what loading took
  room_left : (a n used : ℕ) → 1 ≤ a → a ≤ n → used ≤ start + 2 * most → (used ≤ allowance most start n) × (most * (n - a) ≤ allowance most start n - used)
  room_left a n used one least in_time =
      let e : (n - 1) + 2 ≡ n + 1 = omega arith in
      let whole : most * (n + 1) ≡ most * (n - 1) + most * 2 = ap (λ x. most * x) (sym e) ∙ mul-add most (n - 1) 2 in
      let h : n - a ≤ n - 1 = omega arith in
      let part : most * (n - a) ≤ most * (n - 1) = mul-le-mul_left {m = n - a} {n = n - 1} most h in
      (omega arith, omega arith)

  pub started_runs : SameRuns p.guest p.classes reply (allowance most start) g j k
  started_runs =
      let no_sooner = r.no_sooner in
      let in_time = r.in_time in
      record {
        forth = λ n. forth_round (counted_by p tally) reply Rests (λ x. start + 2 * most) g j k r n (allowance most start n) (λ o least. let room = room_left (r.guest_turns + 1) n r.used (omega arith) least r.in_time in (compared p reply Rests most law fitting (n - (r.guest_turns + 1)) (n - (r.guest_turns + 1)) (allowance most start n - r.used) (omega arith) o.guest_to o.classes_to o.system o.rests).forth room.1) (λ least. let room = room_left (r.guest_turns + 1) n r.used (omega arith) least r.in_time in room.0);
        back = λ m. back_round (counted_by p tally) reply Rests (λ x. start + 2 * most) g j k r m m (omega arith) (λ o room. (compared p reply Rests most law fitting (m - (r.guest_turns + 1)) (m - (r.guest_turns + 1)) (m - r.used) (omega arith) o.guest_to o.classes_to o.system o.rests).back (omega arith));
      }

  -- ---- marks

  mark_bound : (a n used : ℕ) → 1 ≤ a → a ≤ n → used ≤ start + 2 * most → used + most * ((n - a) + 1) ≤ allowance most start (n + 1)
  mark_bound a n used one least in_time =
      let e : n + 2 ≡ n + 1 + 1 = omega arith in
      let whole : most * (n + 1 + 1) ≡ most * n + most * 2 = ap (λ x. most * x) (sym e) ∙ mul-add most n 2 in
      let h : (n - a) + 1 ≤ n = omega arith in
      let part : most * ((n - a) + 1) ≤ most * n = mul-le-mul_left {m = (n - a) + 1} {n = n} most h in
      omega arith

  pub started_marks : (At : G → J → Type 0) → LawOfMarks p Rests At most → (n : ℕ) → 1 ≤ n → MarkedRun p reply Rests At (allowance most start (n + 1)) (run_of p.guest reply n g k) j k
  started_marks At marks n one =
      mark_round (counted_by p tally) reply Rests At (λ x. start + 2 * most) g j k r n (allowance most start (n + 1)) (λ none. absurd (omega arith)) (λ o least. (most * ((n - (r.guest_turns + 1)) + 1), mark_bound (r.guest_turns + 1) n r.used (omega arith) least r.in_time, marked p reply Rests At most law marks fitting (n - (r.guest_turns + 1)) (n - (r.guest_turns + 1)) (omega arith) o.guest_to o.classes_to o.system o.rests))

-- what is counted in the whole runs
module _ {G J I K : Type 0} (p : Pair G J I) (reply : K → Question → Option (Answer × K)) (Rests : G → J → Type 0) (most start : ℕ) (law : LawOfTurn p Rests most) (fitting : (k l : K) (q : Question) (a : Answer) → reply k q ≡ Some (a, l) → IsTrue (answer_fits a q)) (g : G) (j : J) (k : K) (r : Round p reply Rests (λ n. start + 2 * most) g j k) where
  pub started_counts : (i : I) (m : ℕ) → sum_by (p.tally i).classes (trail_of p.classes reply m j k) ≤ (p.tally i).credit j + sum_by (p.tally i).guest (trail_of p.guest reply m g k)
  started_counts i m =
      let no_sooner = r.no_sooner in
      count_round p reply Rests (λ x. start + 2 * most) g j k r m m i (omega arith) (λ o room. (compared p reply Rests most law fitting (m - (r.guest_turns + 1)) (m - (r.guest_turns + 1)) (m - r.used) (omega arith) o.guest_to o.classes_to o.system o.rests).counts (omega arith) i)
