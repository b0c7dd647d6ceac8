-- Where the guest stands at a marked state, the classes come to the place that belongs to it.
use Rattle.std.proofs.Common.{◌≡◌, ℕ, zero, suc, ◌+◌, ◌-◌, ◌*◌, ◌≤◌, true, false, IsTrue, List, [], ◌++◌, Option, Some, ap, sym, subst, ◌∙◌, arith, inl, inr, ◌⊎◌}
use Rattle.std.proofs.Math.Nat.{mul-add}
use Rattle.std.proofs.lemmas.Bool.{cases_lt}
use Rattle.run_definition.specs.Question.{Question}
use Rattle.run_definition.specs.Answer.{Answer, answer_fits}
use Rattle.run_definition.specs.Run.{Run, stops, run_of}
use Rattle.nv_events.specs.Parts.{after}
use Rattle.run_definition.specs.declared.outcome.Outcome.TheVariants.{Going}
use Rattle.run_simulation_laws.specs.Trail.{Step}
use Rattle.run_simulation_laws.specs.Turns.{Pair, LawOfTurn, LawOfMarks}
use Rattle.run_simulation_laws.specs.Runs.{ComesBy}
use Rattle.run_simulation_laws.proofs.Reaching.{Reached}
use Rattle.run_simulation_laws.proofs.Rounds.{OnTo, OverIn, Round}
use Rattle.run_simulation_laws.proofs.Following.{round_of}
use Rattle.run_simulation_laws.proofs.Comparing.{run_still, run_on, run_over}

module _ {G J I K : Type 0} (p : Pair G J I) (reply : K → Question → Option (Answer × K)) (Rests At : G → J → Type 0) where
  -- what is said of a run of the guest, and the classes from a state on
  abbrev pub MarkedRun : ℕ → Run G K → J → K → Type 0
  MarkedRun bound r j k = r.outcome ≡ Going → p.marked r.last ≡ true → ComesBy p.classes reply bound (At r.last) r.questions j k

  comes_after : (used least bound : ℕ) (j l : J) (k h : K) (qs rs : List Question) (xs : List (Step J)) (Place : J → Type 0) → used + least ≤ bound → Reached p.classes reply used j k qs xs l h → ComesBy p.classes reply least Place rs l h → ComesBy p.classes reply bound Place (qs ++ rs) j k
  comes_after used least bound j l k h qs rs xs Place within r c =
      let in_time = c.in_time in
      let e = r.runs c.turns in
      record {
        turns = used + c.turns;
        in_time = omega arith;
        asks_so = ap (λ x. x.questions) e ∙ ap (λ ys. qs ++ ys) c.asks_so;
        goes = ap (λ x. x.outcome) e ∙ c.goes;
        stands = subst (λ s. Place s) (sym (ap (λ x. x.last) e)) c.stands;
      }

  module _ (limit : ℕ → ℕ) (g : G) (j : J) (k : K) (r : Round p reply Rests limit g j k) (n bound : ℕ) where
    abbrev NextRest : Type 0
    NextRest = OnTo p reply Rests (r.guest_turns + 1) r.used g j k r.questions r.guest_trail r.class_trail

    abbrev LastTurn : Type 0
    LastTurn = OverIn p reply Rests (r.guest_turns + 1) r.used g j k r.questions r.guest_trail r.class_trail

    mark_comes : r.guest_turns + 1 ≤ n → (on : (o : NextRest) → (least : ℕ) × (r.used + least ≤ bound) × MarkedRun least (run_of p.guest reply (n - (r.guest_turns + 1)) o.guest_to o.system) o.classes_to o.system) → NextRest ⊎ LastTurn → MarkedRun bound (run_of p.guest reply n g k) j k
    mark_comes least on (inl o) =
        let next = on o in
        let later = run_of p.guest reply (n - (r.guest_turns + 1)) o.guest_to o.system in
        let said : MarkedRun bound (after r.questions later) j k = λ goes marked. comes_after r.used next.0 bound j o.classes_to k o.system r.questions later.questions r.class_trail (At later.last) next.1 o.classes (next.2 goes marked) in
        subst (λ x. MarkedRun bound x j k) (sym (run_on p.guest reply (r.guest_turns + 1) n g o.guest_to k o.system r.questions r.guest_trail least o.guest)) said
    mark_comes least on (inr e) =
        let said : MarkedRun bound (stops r.questions e.outcome e.guest_last k) j k = λ goes marked. absurd (e.over goes) in
        subst (λ x. MarkedRun bound x j k) (sym (run_over p.guest reply (r.guest_turns + 1) n g k _ r.guest_trail least e.guest)) said

    mark_within : 1 ≤ n → n ≤ r.guest_turns → MarkedRun bound (run_of p.guest reply n g k) j k
    mark_within one less =
        let t = r.guest_moves n less in
        let said : MarkedRun bound (stops [] Going t.0 k) j k = λ goes marked. let e : false ≡ true = sym (r.unmarked n t.0 one less t.1) ∙ marked in cc in
        subst (λ x. MarkedRun bound x j k) (sym (run_still p.guest reply n g t.0 k t.1)) said

    pub mark_round : (at_rest : n ≡ 0 → MarkedRun bound (run_of p.guest reply n g k) j k) → (on : (o : NextRest) → r.guest_turns + 1 ≤ n → (least : ℕ) × (r.used + least ≤ bound) × MarkedRun least (run_of p.guest reply (n - (r.guest_turns + 1)) o.guest_to o.system) o.classes_to o.system) → MarkedRun bound (run_of p.guest reply n g k) j k
    mark_round at_rest on = elim (cases_lt n (r.guest_turns + 1)) [
      | inl less ↦ elim (cases_lt n 1) [ inl none ↦ at_rest (omega arith) | inr one ↦ mark_within one (omega arith) ]
      | inr least ↦ mark_comes least (λ o. on o least) r.comes
    ]

  module _ (most : ℕ) (law : LawOfTurn p Rests most) (marks : LawOfMarks p Rests At most) (fitting : (k l : K) (q : Question) (a : Answer) → reply k q ≡ Some (a, l) → IsTrue (answer_fits a q)) where
    -- at rest
    marked_rest : (n : ℕ) (g : G) (j : J) (k : K) → Rests g j → n ≡ 0 → MarkedRun (most * (n + 1)) (run_of p.guest reply n g k) j k
    marked_rest n g j k rests none =
        let said : MarkedRun (most * (n + 1)) (stops [] Going g k) j k = λ goes marked. let c = marks g j rests marked in let within : n + 1 ≡ 1 = omega arith in let room : most * (n + 1) ≡ most * 1 = ap (λ x. most * x) within in let e = run_still p.classes reply c.0 j c.1 k c.3 in let early = c.2 in record {
          turns = c.0;
          in_time = omega arith;
          asks_so = ap (λ x. x.questions) e;
          goes = ap (λ x. x.outcome) e;
          stands = subst (λ s. At g s) (sym (ap (λ x. x.last) e)) c.4;
        } in
        subst (λ x. MarkedRun (most * (n + 1)) (run_of p.guest reply x g k) j k) (sym none) said

    later_bound : (a n used : ℕ) → a ≤ n → used ≤ most * a → used + most * ((n - a) + 1) ≤ most * (n + 1)
    later_bound a n used least in_time =
        let e : a + ((n - a) + 1) ≡ n + 1 = omega arith in
        let split : most * (a + ((n - a) + 1)) ≡ most * a + most * ((n - a) + 1) = mul-add most a ((n - a) + 1) in
        let whole : most * (n + 1) ≡ most * a + most * ((n - a) + 1) = ap (λ x. most * x) (sym e) ∙ split in
        omega arith

    marked_by : (n : ℕ) (g : G) (j : J) (k : K) → Rests g j → (r : Round p reply Rests (λ x. most * x) g j k) → ((o : OnTo p reply Rests (r.guest_turns + 1) r.used g j k r.questions r.guest_trail r.class_trail) → r.guest_turns + 1 ≤ n → MarkedRun (most * ((n - (r.guest_turns + 1)) + 1)) (run_of p.guest reply (n - (r.guest_turns + 1)) o.guest_to o.system) o.classes_to o.system) → MarkedRun (most * (n + 1)) (run_of p.guest reply n g k) j k
    marked_by n g j k rests r on =
        mark_round (λ x. most * x) g j k r n (most * (n + 1)) (marked_rest n g j k rests) (λ o least. (most * ((n - (r.guest_turns + 1)) + 1), later_bound (r.guest_turns + 1) n r.used least r.in_time, on o least))

    pub marked : (fuel n : ℕ) → n ≤ fuel → (g : G) (j : J) (k : K) → Rests g j → MarkedRun (most * (n + 1)) (run_of p.guest reply n g k) j k
    marked zero n less g j k rests =
        marked_by n g j k rests (round_of p reply Rests (λ x. most * x) fitting g j k (law g j rests)) (λ o least. absurd (omega arith))
    marked (suc fuel) n less g j k rests =
        let r = round_of p reply Rests (λ x. most * x) fitting g j k (law g j rests) in
        marked_by n g j k rests r (λ o least. marked fuel (n - (r.guest_turns + 1)) (omega arith) o.guest_to o.classes_to o.system o.rests)
