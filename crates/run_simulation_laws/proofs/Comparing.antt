-- The runs of two machines, of which one follows the other, compared turn by turn.
use Rattle.std.proofs.Common.{◌≡◌, ℕ, zero, suc, ◌+◌, ◌-◌, ◌*◌, ◌≤◌, IsTrue, List, [], ◌++◌, Option, Some, None, refl, ap, sym, subst, ◌∙◌, arith, inl, inr, ◌⊎◌}
use Rattle.std.proofs.Math.Nat.{mul-add, mul-le-mul_left}
use Rattle.std.proofs.lemmas.Bool.{cases_lt}
use Rattle.std.proofs.lemmas.List.{append-nil}
use Rattle.std.proofs.lemmas.List.Sums.{sum_by-append, sum_by-cons}
use Rattle.std.specs.List.{sum_by}
use Rattle.run_definition.specs.Question.{Question}
use Rattle.run_definition.specs.Answer.{Answer, answer_fits}
use Rattle.run_definition.specs.Turn.{Turn, moves, ends, leaves, asks}
use Rattle.run_definition.specs.Run.{Run, stops, run_of}
use Rattle.nv_events.specs.Parts.{after}
use Rattle.run_definition.specs.declared.outcome.Outcome.TheVariants.{Going}
use Rattle.run_simulation_laws.specs.Trail.{Step, went, trail_given, trail_by, trail_of, advanced, moved}
use Rattle.run_simulation_laws.specs.Turns.{Pair, LawOfTurn}
use Rattle.run_simulation_laws.specs.Runs.{Agrees}
use Rattle.run_simulation_laws.proofs.Reaching.{Reached, Finished, reached_moved}
use Rattle.run_simulation_laws.proofs.Agreement.{agrees_nothing, agrees_alike, agrees_trans, agrees_after, agrees_longer}
use Rattle.run_simulation_laws.proofs.Rounds.{OnTo, OverIn, Round}
use Rattle.run_simulation_laws.proofs.Following.{round_of}

-- ---- the parts of one run

module _ {S K : Type 0} (turn : S → Turn S) (reply : K → Question → Option (Answer × K)) where
  pub run_still : (n : ℕ) (s t : S) (k : K) → advanced turn n s ≡ Some t → run_of turn reply n s k ≡ stops [] Going t k
  run_still n s t k is =
      let e : n ≡ n + 0 = omega arith in
      let r = reached_moved turn reply n s t k is in
      ap (λ i. run_of turn reply i s k) e ∙ r.runs 0

  pub trail_still : (n m : ℕ) (s t : S) (k : K) → n ≤ m → advanced turn n s ≡ Some t → trail_of turn reply m s k ≡ moved turn n s ++ trail_of turn reply (m - n) t k
  trail_still n m s t k less is =
      let e : m ≡ n + (m - n) = omega arith in
      let r = reached_moved turn reply n s t k is in
      ap (λ i. trail_of turn reply i s k) e ∙ r.goes (m - n)

  pub run_on : (n m : ℕ) (s t : S) (k l : K) (qs : List Question) (xs : List (Step S)) → n ≤ m → Reached turn reply n s k qs xs t l → run_of turn reply m s k ≡ after qs (run_of turn reply (m - n) t l)
  run_on n m s t k l qs xs less r =
      let e : m ≡ n + (m - n) = omega arith in ap (λ i. run_of turn reply i s k) e ∙ r.runs (m - n)

  pub trail_on : (n m : ℕ) (s t : S) (k l : K) (qs : List Question) (xs : List (Step S)) → n ≤ m → Reached turn reply n s k qs xs t l → trail_of turn reply m s k ≡ xs ++ trail_of turn reply (m - n) t l
  trail_on n m s t k l qs xs less r =
      let e : m ≡ n + (m - n) = omega arith in ap (λ i. trail_of turn reply i s k) e ∙ r.goes (m - n)

  pub run_over : (n m : ℕ) (s : S) (k : K) (end : Run S K) (xs : List (Step S)) → n ≤ m → Finished turn reply n s k end xs → run_of turn reply m s k ≡ end
  run_over n m s k end xs less r =
      let e : m ≡ n + (m - n) = omega arith in ap (λ i. run_of turn reply i s k) e ∙ r.runs (m - n)

  pub trail_over : (n m : ℕ) (s : S) (k : K) (end : Run S K) (xs : List (Step S)) → n ≤ m → Finished turn reply n s k end xs → trail_of turn reply m s k ≡ xs
  trail_over n m s k end xs less r =
      let e : m ≡ n + (m - n) = omega arith in ap (λ i. trail_of turn reply i s k) e ∙ r.goes (m - n)

  -- a longer trail counts no less
  given_grows : (f : Step S → ℕ) (got : Option (Answer × K)) (next : Answer → S) (s : S) (less more : S → K → List (Step S)) → ((t : S) (l : K) → sum_by f (less t l) ≤ sum_by f (more t l)) → sum_by f (trail_given got next s less) ≤ sum_by f (trail_given got next s more)
  given_grows f None next s less more h = omega arith
  given_grows f (Some given) next s less more h =
      let step = went s (next given.0) in
      let one = h (next given.0) given.1 in
      let x = sum_by-cons f step (less (next given.0) given.1) in
      let y = sum_by-cons f step (more (next given.0) given.1) in
      omega arith

  by_grows : (f : Step S → ℕ) (x : Turn S) (s : S) (k : K) (less more : S → K → List (Step S)) → ((t : S) (l : K) → sum_by f (less t l) ≤ sum_by f (more t l)) → sum_by f (trail_by reply x s k less) ≤ sum_by f (trail_by reply x s k more)
  by_grows f (moves t) s k less more h =
      let one = h t k in
      let x = sum_by-cons f (went s t) (less t k) in
      let y = sum_by-cons f (went s t) (more t k) in
      omega arith
  by_grows f (ends e) s k less more h = omega arith
  by_grows f (leaves q e) s k less more h = omega arith
  by_grows f (asks q next) s k less more h = given_grows f (reply k q) next s less more h

  pub trail_grows : (f : Step S → ℕ) (n m : ℕ) (s : S) (k : K) → n ≤ m → sum_by f (trail_of turn reply n s k) ≤ sum_by f (trail_of turn reply m s k)
  trail_grows f zero m s k less = omega arith
  trail_grows f (suc n) zero s k less = absurd (omega arith)
  trail_grows f (suc n) (suc m) s k less =
      by_grows f (turn s) s k (trail_of turn reply n) (trail_of turn reply m) (λ t l. trail_grows f n m t l (omega arith))

agrees_by : {S T K : Type 0} (r r₂ : Run S K) (s s₂ : Run T K) → r ≡ r₂ → s ≡ s₂ → Agrees r₂ s₂ → Agrees r s
agrees_by r r₂ s s₂ first second a =
    subst (λ x. Agrees x s) (sym first) (subst (λ y. Agrees r₂ y) (sym second) a)

agrees_still : {S T K : Type 0} (turn : S → Turn S) (reply : K → Question → Option (Answer × K)) (n : ℕ) (s t : S) (k : K) (other : Run T K) → advanced turn n s ≡ Some t → Agrees (run_of turn reply n s k) other
agrees_still turn reply n s t k other is =
    let e = run_still turn reply n s t k is in
    agrees_nothing (run_of turn reply n s k) other (ap (λ r. r.questions) e) (ap (λ r. r.outcome) e)

-- ---- one round

module _ {G J I K : Type 0} (p : Pair G J I) (reply : K → Question → Option (Answer × K)) (Rests : G → J → Type 0) where
  module _ (limit : ℕ → ℕ) (g : G) (j : J) (k : K) (r : Round p reply Rests limit g j k) (n m : ℕ) where
    abbrev NextRest : Type 0
    NextRest = OnTo p reply Rests (r.guest_turns + 1) r.used g j k r.questions r.guest_trail r.class_trail

    abbrev LastTurn : Type 0
    LastTurn = OverIn p reply Rests (r.guest_turns + 1) r.used g j k r.questions r.guest_trail r.class_trail

    forth_comes : (on : (o : NextRest) → Agrees (run_of p.guest reply (n - (r.guest_turns + 1)) o.guest_to o.system) (run_of p.classes reply (m - r.used) o.classes_to o.system)) → r.guest_turns + 1 ≤ n → r.used ≤ m → NextRest ⊎ LastTurn → Agrees (run_of p.guest reply n g k) (run_of p.classes reply m j k)
    forth_comes on least room (inl o) =
        agrees_by _ _ _ _ (run_on p.guest reply (r.guest_turns + 1) n g o.guest_to k o.system r.questions r.guest_trail least o.guest) (run_on p.classes reply r.used m j o.classes_to k o.system r.questions r.class_trail room o.classes) (agrees_after r.questions _ _ (on o))
    forth_comes on least room (inr e) =
        agrees_by _ _ _ _ (run_over p.guest reply (r.guest_turns + 1) n g k _ r.guest_trail least e.guest) (run_over p.classes reply r.used m j k _ r.class_trail room e.classes) (agrees_alike (stops r.questions e.outcome e.guest_last k) (stops r.questions e.outcome e.class_last k) refl refl refl)

    pub forth_round : (on : (o : NextRest) → r.guest_turns + 1 ≤ n → Agrees (run_of p.guest reply (n - (r.guest_turns + 1)) o.guest_to o.system) (run_of p.classes reply (m - r.used) o.classes_to o.system)) → (r.guest_turns + 1 ≤ n → r.used ≤ m) → Agrees (run_of p.guest reply n g k) (run_of p.classes reply m j k)
    forth_round on room = elim (cases_lt n (r.guest_turns + 1)) [
      | inl less ↦ let t = r.guest_moves n (omega arith) in agrees_still p.guest reply n g t.0 k (run_of p.classes reply m j k) t.1
      | inr least ↦ forth_comes (λ o. on o least) least (room least) r.comes
    ]

    back_comes : (on : (o : NextRest) → r.used ≤ m → Agrees (run_of p.classes reply (m - r.used) o.classes_to o.system) (run_of p.guest reply (n - (r.guest_turns + 1)) o.guest_to o.system)) → r.guest_turns + 1 ≤ n → NextRest ⊎ LastTurn → Agrees (run_of p.classes reply m j k) (run_of p.guest reply n g k)
    back_comes on least (inl o) =
        let guest = run_on p.guest reply (r.guest_turns + 1) n g o.guest_to k o.system r.questions r.guest_trail least o.guest in
        elim (cases_lt m r.used) [
          | inl less ↦ let whole = run_on p.classes reply r.used r.used j o.classes_to k o.system r.questions r.class_trail (omega arith) o.classes in let none : r.used - r.used ≡ 0 = omega arith in let rested = whole ∙ ap (λ i. after r.questions (run_of p.classes reply i o.classes_to o.system)) none in agrees_trans (run_of p.classes reply m j k) (run_of p.classes reply r.used j k) (run_of p.guest reply n g k) (agrees_longer p.classes reply m r.used j k (omega arith)) (agrees_by _ _ _ _ rested guest (agrees_after r.questions (stops [] Going o.classes_to o.system) _ (agrees_nothing _ _ refl refl)))
          | inr most ↦ agrees_by _ _ _ _ (run_on p.classes reply r.used m j o.classes_to k o.system r.questions r.class_trail most o.classes) guest (agrees_after r.questions _ _ (on o most))
        ]
    back_comes on least (inr e) =
        let guest = run_over p.guest reply (r.guest_turns + 1) n g k _ r.guest_trail least e.guest in
        let over = run_over p.classes reply r.used (m + r.used) j k _ r.class_trail (omega arith) e.classes in
        agrees_trans (run_of p.classes reply m j k) (run_of p.classes reply (m + r.used) j k) (run_of p.guest reply n g k) (agrees_longer p.classes reply m (m + r.used) j k (omega arith)) (agrees_by _ _ _ _ over guest (agrees_alike (stops r.questions e.outcome e.class_last k) (stops r.questions e.outcome e.guest_last k) refl refl refl))

    pub back_round : m ≤ n → (on : (o : NextRest) → r.used ≤ m → Agrees (run_of p.classes reply (m - r.used) o.classes_to o.system) (run_of p.guest reply (n - (r.guest_turns + 1)) o.guest_to o.system)) → Agrees (run_of p.classes reply m j k) (run_of p.guest reply n g k)
    back_round within on = elim (cases_lt m (r.guest_turns + 1)) [
      | inl less ↦ let t = r.classes_move m (omega arith) in agrees_still p.classes reply m j t.0 k (run_of p.guest reply n g k) t.1
      | inr least ↦ back_comes on (omega arith) r.comes
    ]

    -- ---- what is counted

    count_comes : (i : I) → m ≤ n → r.guest_turns + 1 ≤ m → (on : (o : NextRest) → r.used ≤ m → sum_by (p.tally i).classes (trail_of p.classes reply (m - r.used) o.classes_to o.system) ≤ (p.tally i).credit o.classes_to + sum_by (p.tally i).guest (trail_of p.guest reply (n - (r.guest_turns + 1)) o.guest_to o.system)) → NextRest ⊎ LastTurn → sum_by (p.tally i).classes (trail_of p.classes reply m j k) ≤ (p.tally i).credit j + sum_by (p.tally i).guest (trail_of p.guest reply n g k)
    count_comes i within least on (inl o) =
        let c = (p.tally i).classes in
        let d = (p.tally i).guest in
        let later = trail_of p.guest reply (n - (r.guest_turns + 1)) o.guest_to o.system in
        let guest : sum_by d (trail_of p.guest reply n g k) ≡ sum_by d r.guest_trail + sum_by d later = ap (sum_by d) (trail_on p.guest reply (r.guest_turns + 1) n g o.guest_to k o.system r.questions r.guest_trail (omega arith) o.guest) ∙ sum_by-append d r.guest_trail later in
        let paid = o.paid i in
        elim (cases_lt m r.used) [
          | inl less ↦ let none : r.used - r.used ≡ 0 = omega arith in let whole : sum_by c (trail_of p.classes reply r.used j k) ≡ sum_by c r.class_trail = ap (sum_by c) (trail_on p.classes reply r.used r.used j o.classes_to k o.system r.questions r.class_trail (omega arith) o.classes ∙ ap (λ x. r.class_trail ++ trail_of p.classes reply x o.classes_to o.system) none ∙ append-nil r.class_trail) in let part = trail_grows p.classes reply c m r.used j k (omega arith) in omega arith
          | inr most ↦ let rest = trail_of p.classes reply (m - r.used) o.classes_to o.system in let whole : sum_by c (trail_of p.classes reply m j k) ≡ sum_by c r.class_trail + sum_by c rest = ap (sum_by c) (trail_on p.classes reply r.used m j o.classes_to k o.system r.questions r.class_trail most o.classes) ∙ sum_by-append c r.class_trail rest in let next = on o most in omega arith
        ]
    count_comes i within least on (inr e) =
        let c = (p.tally i).classes in
        let d = (p.tally i).guest in
        let guest : sum_by d (trail_of p.guest reply n g k) ≡ sum_by d r.guest_trail = ap (sum_by d) (trail_over p.guest reply (r.guest_turns + 1) n g k _ r.guest_trail (omega arith) e.guest) in
        let whole : sum_by c (trail_of p.classes reply (m + r.used) j k) ≡ sum_by c r.class_trail = ap (sum_by c) (trail_over p.classes reply r.used (m + r.used) j k _ r.class_trail (omega arith) e.classes) in
        let part = trail_grows p.classes reply c m (m + r.used) j k (omega arith) in
        let paid = e.paid i in
        omega arith

    pub count_round : (i : I) → m ≤ n → (on : (o : NextRest) → r.used ≤ m → sum_by (p.tally i).classes (trail_of p.classes reply (m - r.used) o.classes_to o.system) ≤ (p.tally i).credit o.classes_to + sum_by (p.tally i).guest (trail_of p.guest reply (n - (r.guest_turns + 1)) o.guest_to o.system)) → sum_by (p.tally i).classes (trail_of p.classes reply m j k) ≤ (p.tally i).credit j + sum_by (p.tally i).guest (trail_of p.guest reply n g k)
    count_round i within on = elim (cases_lt m (r.guest_turns + 1)) [
      | inl less ↦ let c = (p.tally i).classes in let d = (p.tally i).guest in let s = r.classes_move m (omega arith) in let t = r.guest_moves m (omega arith) in let none : m - m ≡ 0 = omega arith in let still : sum_by c (trail_of p.classes reply m j k) ≡ sum_by c (moved p.classes m j) = ap (sum_by c) (trail_still p.classes reply m m j s.0 k (omega arith) s.1 ∙ ap (λ x. moved p.classes m j ++ trail_of p.classes reply x s.0 k) none ∙ append-nil (moved p.classes m j)) in let later = trail_of p.guest reply (n - m) t.0 k in let guest : sum_by d (trail_of p.guest reply n g k) ≡ sum_by d (moved p.guest m g) + sum_by d later = ap (sum_by d) (trail_still p.guest reply m n g t.0 k within t.1) ∙ sum_by-append d (moved p.guest m g) later in let early = r.early i m (omega arith) in omega arith
      | inr least ↦ count_comes i within least on r.comes
    ]

  -- ---- all rounds

  module _ (most : ℕ) (law : LawOfTurn p Rests most) (fitting : (k l : K) (q : Question) (a : Answer) → reply k q ≡ Some (a, l) → IsTrue (answer_fits a q)) where
    -- the runs of n turns of the guest and of m of the classes
    pub record Compared (n m : ℕ) (g : G) (j : J) (k : K) : Type 0 where
      pub forth : most * n ≤ m → Agrees (run_of p.guest reply n g k) (run_of p.classes reply m j k)
      pub back : m ≤ n → Agrees (run_of p.classes reply m j k) (run_of p.guest reply n g k)
      pub counts : m ≤ n → (i : I) → sum_by (p.tally i).classes (trail_of p.classes reply m j k) ≤ (p.tally i).credit j + sum_by (p.tally i).guest (trail_of p.guest reply n g k)

    abbrev round_at : (g : G) (j : J) (k : K) → Rests g j → Round p reply Rests (λ x. most * x) g j k
    round_at g j k rests = round_of p reply Rests (λ x. most * x) fitting g j k (law g j rests)

    compared_round : (g : G) (j : J) (k : K) (r : Round p reply Rests (λ x. most * x) g j k) (n m : ℕ) → (on : (o : OnTo p reply Rests (r.guest_turns + 1) r.used g j k r.questions r.guest_trail r.class_trail) → r.guest_turns + 1 ≤ n → Compared (n - (r.guest_turns + 1)) (m - r.used) o.guest_to o.classes_to o.system) → Compared n m g j k
    compared_round g j k r n m on =
        let a = r.guest_turns + 1 in
        let no_sooner = r.no_sooner in
        let in_time = r.in_time in
        record {
          forth = λ room. forth_round (λ x. most * x) g j k r n m (λ o least. (on o least).forth (let split : most * (a + (n - a)) ≡ most * a + most * (n - a) = mul-add most a (n - a) in let e : a + (n - a) ≡ n = omega arith in let whole : most * n ≡ most * a + most * (n - a) = ap (λ x. most * x) (sym e) ∙ split in omega arith)) (λ least. let lies = mul-le-mul_left {m = a} {n = n} most least in omega arith);
          back = λ within. back_round (λ x. most * x) g j k r n m within (λ o room. (on o (omega arith)).back (omega arith));
          counts = λ within i. count_round (λ x. most * x) g j k r n m i within (λ o room. (on o (omega arith)).counts (omega arith) i);
        }

    pub compared : (fuel n m : ℕ) → n ≤ fuel → (g : G) (j : J) (k : K) → Rests g j → Compared n m g j k
    compared zero n m less g j k rests =
        compared_round g j k (round_at g j k rests) n m (λ o least. absurd (omega arith))
    compared (suc fuel) n m less g j k rests =
        compared_round g j k (round_at g j k rests) n m (λ o least. compared fuel (n - ((round_at g j k rests).guest_turns + 1)) (m - (round_at g j k rests).used) (omega arith) o.guest_to o.classes_to o.system o.rests)
