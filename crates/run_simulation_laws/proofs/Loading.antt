-- The runs of two machines from their start on, through the first call.
use Rattle.std.proofs.Common.{◌≡◌, ℕ, zero, suc, ◌+◌, ◌-◌, ◌*◌, ◌≤◌, if◌then◌else◌, IsTrue, List, [], ◌∷◌, ◌++◌, Option, Some, None, refl, ap, sym, subst, ◌∙◌, arith, inl, inr}
use Rattle.std.proofs.lemmas.Bool.{cases_lt}
use Rattle.std.proofs.lemmas.List.{append-nil}
use Rattle.std.proofs.lemmas.List.Sums.{sum_by-append, sum_by-cons}
use Rattle.std.proofs.lemmas.Option.{none-some}
use Rattle.std.specs.List.{sum_by}
use Rattle.run_definition.specs.Question.{Question}
use Rattle.run_definition.specs.Answer.{Answer, answer_fits}
use Rattle.run_definition.specs.Turn.{Turn, moves, ends, leaves, asks}
use Rattle.run_definition.specs.Run.{run_of}
use Rattle.run_simulation_laws.specs.Trail.{Step, went, stood, trail_given, trail_by, trail_of, is_call, after_call, if_moves, advanced, moved}
use Rattle.run_simulation_laws.specs.Turns.{Pair, ComesToRest, Alike, Follows, LawOfMarks, Loads, Translates}
use Rattle.run_simulation_laws.specs.Runs.{SameRuns, allowance}
use Rattle.run_simulation_laws.proofs.Passing.{moved_grows}
use Rattle.run_simulation_laws.proofs.Reaching.{reached_moved, advanced_less}
use Rattle.run_simulation_laws.proofs.Rounds.{Round}
use Rattle.run_simulation_laws.proofs.Following.{round_of}
use Rattle.run_simulation_laws.proofs.Comparing.{compared, trail_still, trail_grows}
use Rattle.run_simulation_laws.proofs.Marking.{MarkedRun}
use Rattle.run_simulation_laws.proofs.Starting.{counted_by, started_runs, started_marks}

-- ---- loading is a round in which nothing is counted

abbrev uncounted : {G J I : Type 0} → Pair G J I → Pair G J ⊥
uncounted p = counted_by p (λ i. absurd i)

alike_asks : {G J : Type 0} (GoesOn : G → J → Type 0) (Ends : Type 0) (q : Question) (next : Answer → G) (later : Answer → J) (x : Turn G) (y : Turn J) → x ≡ asks q next → y ≡ asks q later → Ends → ((a : Answer) → IsTrue (answer_fits a q) → GoesOn (next a) (later a)) → Alike GoesOn Ends x y
alike_asks {G} {J} GoesOn Ends q next later x y first second finish goes =
    let both : Alike GoesOn Ends (asks q next) (asks q later) = (refl, finish, goes) in
    subst (λ (z : Turn G). Alike GoesOn Ends z y) (sym first) (subst (λ (z : Turn J). Alike GoesOn Ends (asks q next) z) (sym second) both)

module _ {G J I : Type 0} (p : Pair G J I) (Rests : G → J → Type 0) (limit : ℕ) (allowed : I → ℕ) (g : G) (j : J) (l : Loads p Rests limit allowed g j) where
  pub load_follows : Follows (uncounted p) Rests (λ n. limit) g j
  load_follows = record {
    guest_turns = 0;
    class_turns = l.class_turns;
    guest_at = g;
    class_at = l.class_at;
    guest_comes = refl;
    class_comes = l.class_comes;
    no_sooner = omega arith;
    unmarked = λ n t one none is. absurd (omega arith);
    early = λ i n none. absurd i;
    alike = alike_asks _ _ l.question l.guest_next l.class_next (p.guest g) (p.classes l.class_at) l.guest_asks l.class_asks (record { in_time = l.in_time; counted = λ i. absurd i }) (λ a fit. let c = l.answered a fit in record {
      more = c.more;
      rest = c.rest;
      comes = c.comes;
      rests = c.rests;
      in_time = c.in_time;
      counted = λ i. absurd i;
    });
  }

-- ---- after the first call

module _ {S : Type 0} (turn : S → Turn S) where
  after_by : (n : ℕ) (x : Turn S) (s t : S) (rest : List (Step S)) → turn s ≡ x → if_moves x None (advanced turn n) ≡ Some t → ((u : S) → advanced turn n u ≡ Some t → after_call turn (moved turn n u ++ rest) ≡ after_call turn rest) → after_call turn (if_moves x [] (λ u. went s u ∷ moved turn n u) ++ rest) ≡ after_call turn rest
  after_by n (moves u) s t rest e is on =
      ap (λ y. if is_call y then moved turn n u ++ rest else after_call turn (moved turn n u ++ rest)) e ∙ on u is
  after_by n (ends end) s t rest e is on = absurd (none-some t is)
  after_by n (leaves q end) s t rest e is on = absurd (none-some t is)
  after_by n (asks q next) s t rest e is on = absurd (none-some t is)

  pub after_moved : (n : ℕ) (s t : S) (rest : List (Step S)) → advanced turn n s ≡ Some t → after_call turn (moved turn n s ++ rest) ≡ after_call turn rest
  after_moved zero s t rest is = refl
  after_moved (suc n) s t rest is =
      after_by n (turn s) s t rest refl is (λ u on. after_moved n u t rest on)

  pub after_asks : (q : Question) (next : Answer → S) (step : Step S) (rest : List (Step S)) → turn step.from ≡ asks q next → after_call turn (step ∷ rest) ≡ rest
  after_asks q next step rest e =
      ap (λ y. if is_call y then rest else after_call turn rest) e

-- ---- the whole

module _ {G J I K : Type 0} (p : Pair G J I) (reply : K → Question → Option (Answer × K)) (Rests : G → J → Type 0) (most start : ℕ) (allowed : I → ℕ) (g : G) (j : J) (t : Translates p Rests most start allowed g j) (fitting : (k l : K) (q : Question) (a : Answer) → reply k q ≡ Some (a, l) → IsTrue (answer_fits a q)) where
  abbrev first_round : (k : K) → Round (uncounted p) reply Rests (λ n. start + 2 * most) g j k
  first_round k = round_of (uncounted p) reply Rests (λ n. start + 2 * most) fitting g j k (load_follows p Rests (start + 2 * most) allowed g j t.loads)

  pub same_runs : (k : K) → SameRuns p.guest p.classes reply (allowance most start) g j k
  same_runs k =
      started_runs p (λ i. absurd i) reply Rests most start t.turns fitting g j k (first_round k)

  pub comes_to_marks : (At : G → J → Type 0) → LawOfMarks p Rests At most → (n : ℕ) (k : K) → 1 ≤ n → MarkedRun p reply Rests At (allowance most start (n + 1)) (run_of p.guest reply n g k) j k
  comes_to_marks At marks n k one =
      started_marks p (λ i. absurd i) reply Rests most start t.turns fitting g j k (first_round k) At marks n one

  -- ---- what is counted after the first call

  -- from its answer on
  count_rested : (i : I) (n m : ℕ) (h : G) (s : J) (k : K) (used limit : ℕ) → m ≤ n → ComesToRest p Rests used limit allowed [] [] h s → sum_by (p.tally i).classes (trail_of p.classes reply m s k) ≤ allowed i + sum_by (p.tally i).guest (trail_of p.guest reply n h k)
  count_rested i n m h s k used limit within c =
      let f = (p.tally i).classes in
      let paid = c.counted i in
      let zero_after : c.more - c.more ≡ 0 = omega arith in
      elim (cases_lt m c.more) [
        | inl less ↦ let whole : sum_by f (trail_of p.classes reply c.more s k) ≡ sum_by f (moved p.classes c.more s) = ap (sum_by f) (trail_still p.classes reply c.more c.more s c.rest k (omega arith) c.comes ∙ ap (λ x. moved p.classes c.more s ++ trail_of p.classes reply x c.rest k) zero_after ∙ append-nil (moved p.classes c.more s)) in let part = trail_grows p.classes reply f m c.more s k (omega arith) in omega arith
        | inr most_of ↦ let later = trail_of p.classes reply (m - c.more) c.rest k in let whole : sum_by f (trail_of p.classes reply m s k) ≡ sum_by f (moved p.classes c.more s) + sum_by f later = ap (sum_by f) (trail_still p.classes reply c.more m s c.rest k most_of c.comes) ∙ sum_by-append f (moved p.classes c.more s) later in let next = (compared p reply Rests most t.turns fitting n n (m - c.more) (omega arith) h c.rest k c.rests).counts (omega arith) i in omega arith
      ]

  classes_before : (m : ℕ) (k : K) → m ≤ t.loads.class_turns → after_call p.classes (trail_of p.classes reply m j k) ≡ []
  classes_before m k less =
      let s = advanced_less p.classes m t.loads.class_turns j t.loads.class_at less t.loads.class_comes in
      let none : m - m ≡ 0 = omega arith in
      ap (after_call p.classes) (trail_still p.classes reply m m j s.0 k (omega arith) s.1 ∙ ap (λ x. moved p.classes m j ++ trail_of p.classes reply x s.0 k) none)
      ∙ after_moved p.classes m j s.0 [] s.1

  -- the classes' trail after m turns more than those before the call
  classes_trail : (m : ℕ) (k : K) → trail_of p.classes reply (t.loads.class_turns + suc m) j k ≡ moved p.classes t.loads.class_turns j ++ trail_given (reply k t.loads.question) t.loads.class_next t.loads.class_at (trail_of p.classes reply m)
  classes_trail m k =
      let l = t.loads in
      let r = reached_moved p.classes reply l.class_turns j l.class_at k l.class_comes in
      r.goes (suc m)
      ∙ ap (λ x. moved p.classes l.class_turns j ++ trail_by reply x l.class_at k (trail_of p.classes reply m)) l.class_asks

  classes_after : (m : ℕ) (k : K) → after_call p.classes (trail_of p.classes reply (t.loads.class_turns + suc m) j k) ≡ after_call p.classes (trail_given (reply k t.loads.question) t.loads.class_next t.loads.class_at (trail_of p.classes reply m))
  classes_after m k =
      let l = t.loads in
      ap (after_call p.classes) (classes_trail m k)
      ∙ after_moved p.classes l.class_turns j l.class_at (trail_given (reply k l.question) l.class_next l.class_at (trail_of p.classes reply m)) l.class_comes

  guest_after : (n : ℕ) (k : K) → after_call p.guest (trail_of p.guest reply (suc n) g k) ≡ after_call p.guest (trail_given (reply k t.loads.question) t.loads.guest_next g (trail_of p.guest reply n))
  guest_after n k =
      ap (λ x. after_call p.guest (trail_by reply x g k (trail_of p.guest reply n))) t.loads.guest_asks

  count_given : (i : I) (n m : ℕ) (k : K) (got : Option (Answer × K)) → m ≤ n → reply k t.loads.question ≡ got → sum_by (p.tally i).classes (after_call p.classes (trail_given got t.loads.class_next t.loads.class_at (trail_of p.classes reply m))) ≤ allowed i + sum_by (p.tally i).guest (after_call p.guest (trail_given got t.loads.guest_next g (trail_of p.guest reply n)))
  count_given i n m k None within e =
      let l = t.loads in
      let none : sum_by (p.tally i).classes (after_call p.classes (stood l.class_at ∷ [])) ≡ 0 = ap (sum_by (p.tally i).classes) (after_asks p.classes l.question l.class_next (stood l.class_at) [] l.class_asks) in
      omega arith
  count_given i n m k (Some given) within e =
      let l = t.loads in
      let a = given.0 in
      let classes : sum_by (p.tally i).classes (after_call p.classes (went l.class_at (l.class_next a) ∷ trail_of p.classes reply m (l.class_next a) given.1)) ≡ sum_by (p.tally i).classes (trail_of p.classes reply m (l.class_next a) given.1) = ap (sum_by (p.tally i).classes) (after_asks p.classes l.question l.class_next (went l.class_at (l.class_next a)) _ l.class_asks) in
      let guest : sum_by (p.tally i).guest (after_call p.guest (went g (l.guest_next a) ∷ trail_of p.guest reply n (l.guest_next a) given.1)) ≡ sum_by (p.tally i).guest (trail_of p.guest reply n (l.guest_next a) given.1) = ap (sum_by (p.tally i).guest) (after_asks p.guest l.question l.guest_next (went g (l.guest_next a)) _ l.guest_asks) in
      let rested = count_rested i n m (l.guest_next a) (l.class_next a) given.1 (l.class_turns + 1) (start + 2 * most) within (l.answered a (fitting k given.1 l.question a e)) in
      omega arith

  pub counts : (i : I) (m : ℕ) (k : K) → sum_by (p.tally i).classes (after_call p.classes (trail_of p.classes reply m j k)) ≤ allowed i + sum_by (p.tally i).guest (after_call p.guest (trail_of p.guest reply m g k))
  counts i m k =
      let l = t.loads in
      let c = (p.tally i).classes in
      let d = (p.tally i).guest in
      elim (cases_lt l.class_turns m) [
        | inr less ↦ let none : sum_by c (after_call p.classes (trail_of p.classes reply m j k)) ≡ 0 = ap (sum_by c) (classes_before m k less) in omega arith
        | inl more ↦ let x = m - l.class_turns - 1 in let e : m ≡ l.class_turns + suc x = omega arith in let y = m - 1 in let f : m ≡ suc y = omega arith in let classes : sum_by c (after_call p.classes (trail_of p.classes reply m j k)) ≡ sum_by c (after_call p.classes (trail_given (reply k l.question) l.class_next l.class_at (trail_of p.classes reply x))) = ap (λ z. sum_by c (after_call p.classes (trail_of p.classes reply z j k))) e ∙ ap (sum_by c) (classes_after x k) in let guest : sum_by d (after_call p.guest (trail_of p.guest reply m g k)) ≡ sum_by d (after_call p.guest (trail_given (reply k l.question) l.guest_next g (trail_of p.guest reply y))) = ap (λ z. sum_by d (after_call p.guest (trail_of p.guest reply z g k))) f ∙ ap (sum_by d) (guest_after y k) in let both = count_given i y x k (reply k l.question) (omega arith) refl in omega arith
      ]

  -- ---- nothing before the call

  whole_given : (f : Step J → ℕ) → ((to : Option J) → f (record { from = t.loads.class_at; to = to }) ≡ 0) → (m : ℕ) (got : Option (Answer × K)) → sum_by f (trail_given got t.loads.class_next t.loads.class_at (trail_of p.classes reply m)) ≡ sum_by f (after_call p.classes (trail_given got t.loads.class_next t.loads.class_at (trail_of p.classes reply m)))
  whole_given f none m None =
      let l = t.loads in
      let cons : sum_by f (stood l.class_at ∷ []) ≡ f (stood l.class_at) + 0 = sum_by-cons f (stood l.class_at) [] in
      let here = none None in
      let after : sum_by f (after_call p.classes (stood l.class_at ∷ [])) ≡ 0 = ap (sum_by f) (after_asks p.classes l.question l.class_next (stood l.class_at) [] l.class_asks) in
      omega (arith, cons, here, after)
  whole_given f none m (Some given) =
      let l = t.loads in
      let step = went l.class_at (l.class_next given.0) in
      let rest = trail_of p.classes reply m (l.class_next given.0) given.1 in
      let cons : sum_by f (step ∷ rest) ≡ f step + sum_by f rest = sum_by-cons f step rest in
      let here = none (Some (l.class_next given.0)) in
      let after : sum_by f (after_call p.classes (step ∷ rest)) ≡ sum_by f rest = ap (sum_by f) (after_asks p.classes l.question l.class_next step rest l.class_asks) in
      omega (arith, cons, here, after)

  pub whole_counts : (f : Step J → ℕ) → sum_by f (moved p.classes t.loads.class_turns j) ≡ 0 → ((to : Option J) → f (record { from = t.loads.class_at; to = to }) ≡ 0) → (m : ℕ) (k : K) → sum_by f (trail_of p.classes reply m j k) ≡ sum_by f (after_call p.classes (trail_of p.classes reply m j k))
  whole_counts f before none m k =
      let l = t.loads in
      elim (cases_lt l.class_turns m) [
        | inr less ↦ let after : sum_by f (after_call p.classes (trail_of p.classes reply m j k)) ≡ 0 = ap (sum_by f) (classes_before m k less) in let s = advanced_less p.classes m l.class_turns j l.class_at less l.class_comes in let gap : m - m ≡ 0 = omega arith in let here : sum_by f (trail_of p.classes reply m j k) ≡ sum_by f (moved p.classes m j) = ap (sum_by f) (trail_still p.classes reply m m j s.0 k (omega arith) s.1 ∙ ap (λ x. moved p.classes m j ++ trail_of p.classes reply x s.0 k) gap ∙ append-nil (moved p.classes m j)) in let part = moved_grows p.classes f m l.class_turns j less in omega arith
        | inl more ↦ let x = m - l.class_turns - 1 in let e : m ≡ l.class_turns + suc x = omega arith in let given = trail_given (reply k l.question) l.class_next l.class_at (trail_of p.classes reply x) in let here : sum_by f (trail_of p.classes reply m j k) ≡ sum_by f (moved p.classes l.class_turns j) + sum_by f given = ap (λ z. sum_by f (trail_of p.classes reply z j k)) e ∙ ap (sum_by f) (classes_trail x k) ∙ sum_by-append f (moved p.classes l.class_turns j) given in let after : sum_by f (after_call p.classes (trail_of p.classes reply m j k)) ≡ sum_by f (after_call p.classes given) = ap (λ z. sum_by f (after_call p.classes (trail_of p.classes reply z j k))) e ∙ ap (sum_by f) (classes_after x k) in let same = whole_given f none x (reply k l.question) in omega arith
      ]
