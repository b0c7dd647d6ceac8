-- From turns of the guest and the way of the classes beside them to turns that follow.
use Rattle.std.proofs.Common.{◌≡◌, ℕ, zero, suc, ◌+◌, ◌≤◌, Bool, true, false, IsTrue, List, [], ◌∷◌, ◌++◌, inl, inr, Option, Some, None, refl, ap, sym, subst, ◌∙◌, arith}
use Rattle.std.proofs.lemmas.Bool.{cases_lt}
use Rattle.std.proofs.lemmas.List.Sums.{sum_by-append, sum_by_push}
use Rattle.std.specs.List.{sum_by}
use Rattle.run_definition.specs.Answer.{Answer, answer_fits}
use Rattle.run_definition.specs.Turn.{Turn, moves, ends, leaves, asks}
use Rattle.run_simulation_laws.specs.Trail.{Step, went, stood, if_moves, advanced, moved}
use Rattle.run_simulation_laws.specs.Turns.{Pair, ComesToRest, Stands, Alike, Follows, Passes}
use Rattle.run_simulation_laws.proofs.Passing.{advanced_add, moved_add, moved_grows, moved_one, passes_to_rest}
use Rattle.mips_definition.specs.State as guest
use Rattle.mips_definition.specs.Step as guest_step
use Rattle.jvm_definition.specs.Program.{Program}
use Rattle.jvm_definition.specs.Step.{JvmState, jvm_turn}
use Rattle.emit_paths_laws.specs.Classes.{executed}
use Rattle.trampoline_laws.specs.Classes.{CodeClass}
use Rattle.emit_program_laws.specs.Counted.{Counted, weight, paid, credit, pair}
use Rattle.emit_program_laws.proofs.TurnLaws.Inner.{is_outer_turn, outer-none}

-- the guest's trail: turns that only move, and the last one
abbrev pub trail_to : ℕ → guest.State → guest.State → Option guest.State → List (Step guest.State)
trail_to earlier g before to = moved guest_step.turn earlier g ++ record { from = before; to = to } ∷ []

-- The guest makes one turn more at most before its last one, and is then not marked.
pub record HasTurns (marked : guest.State → Bool) (g : guest.State) (last : Turn guest.State) : Type 0 where
  pub earlier : ℕ
  pub few : earlier ≤ 1
  pub before : guest.State
  pub comes : advanced guest_step.turn earlier g ≡ Some before
  pub last_is : guest_step.turn before ≡ last
  pub hidden : 1 ≤ earlier → marked before ≡ false

-- The classes make so many turns that only move, and count at most so much.
pub record Walks (program : Program) (words : ℕ) (classes : List CodeClass) (used : Counted → ℕ) (n : ℕ) (x y : JvmState) : Type 0 where
  pub comes : advanced (jvm_turn program words) n x ≡ Some y
  pub costs : (i : Counted) → sum_by (executed program (weight classes i)) (moved (jvm_turn program words) n x) ≤ used i

module _ (program : Program) (words : ℕ) (classes : List CodeClass) where
  pub walks-join : (used more : Counted → ℕ) (n m : ℕ) (x y z : JvmState) → Walks program words classes used n x y → Walks program words classes more m y z → Walks program words classes (λ i. used i + more i) (n + m) x z
  walks-join used more n m x y z first next = record {
    comes = advanced_add (jvm_turn program words) n m x y first.comes ∙ next.comes;
    costs = λ i. let c = executed program (weight classes i) in let a = first.costs i in let b = next.costs i in let e = ap (sum_by c) (moved_add (jvm_turn program words) n m x y first.comes) in let s = sum_by-append c (moved (jvm_turn program words) n x) (moved (jvm_turn program words) m y) in omega (arith, a, b, e, s);
  }

module _ (program : Program) (words : ℕ) (classes : List CodeClass) (marked : guest.State → Bool) (Rests : guest.State → JvmState → Type 0) where
  abbrev machines : Pair guest.State JvmState Counted
  machines = pair program words classes marked

  abbrev class_sum : Counted → List (Step JvmState) → ℕ
  class_sum i trail = sum_by (executed program (weight classes i)) trail

  abbrev guest_sum : Counted → List (Step guest.State) → ℕ
  guest_sum i trail = sum_by (paid classes i) trail

  -- From a state the classes come to rest within so many turns that count nothing; with what was used before and the credit there that is no more
  -- than was paid.
  pub record Settles (used allowed : Counted → ℕ) (extra : ℕ) (t : guest.State) (y : JvmState) : Type 0 where
    pub more : ℕ
    pub rest : JvmState
    pub walks : Walks program words classes (λ i. 0) more y rest
    pub rests : Rests t rest
    pub in_time : more ≤ extra
    pub counted : (i : Counted) → used i + credit classes i rest ≤ allowed i

  -- from an answered call within so many turns, which count nothing either
  pub record Answers (used allowed : Counted → ℕ) (extra : ℕ) (t : guest.State) (y : JvmState) : Type 0 where
    pub turns : ℕ
    pub after : JvmState
    pub walks : Walks program words classes (λ i. 0) turns y after
    pub room : ℕ
    pub settles : Settles used allowed room t after
    pub in_time : turns + room ≤ extra

  -- Both end so, both leave so, or both ask the same, having used nothing, and the classes come on to rest.
  abbrev pub IsLike : (used : Counted → ℕ) (allowed : guest.State → Counted → ℕ) (extra : ℕ) → Turn guest.State → Turn JvmState → Type 0
  IsLike used allowed extra (ends e) (ends f) = f ≡ e
  IsLike used allowed extra (leaves q e) (leaves r f) = (r ≡ q) × (f ≡ e)
  IsLike used allowed extra (asks q next) (asks r then) =
      (r ≡ q) × ((i : Counted) → used i ≡ 0) × ((a : Answer) → IsTrue (answer_fits a q) → Answers used (allowed (next a)) extra (next a) (then a))
  IsLike used allowed extra _ _ = ⊥

  -- ---- turns of the classes alone

  no-turns : (i : Counted) (n : ℕ) → n ≤ 0 → (y : JvmState) (g : guest.State) → class_sum i (moved (jvm_turn program words) n y) ≤ credit classes i y + guest_sum i (moved guest_step.turn n g)
  no-turns i zero less y g = omega arith
  no-turns i (suc n) less y g = absurd (omega (arith, less))

  -- they are a part of a turn, where what they count and the credit behind them are within the credit before them
  pub classes-pass : (used : Counted → ℕ) (n : ℕ) (g : guest.State) (y z : JvmState) → Walks program words classes used n y z → ((i : Counted) → used i + credit classes i z ≤ credit classes i y) → Passes machines 0 n g y g z
  classes-pass used n g y z walks within = record {
    guest_comes = refl;
    class_comes = walks.comes;
    no_sooner = omega arith;
    unmarked = λ m t one less is. absurd (omega (arith, one, less));
    early = λ i m less. no-turns i m less y g;
    counted = λ i. let cost = walks.costs i in let room = within i in omega (arith, cost, room);
  }

  -- ---- turns of both

  module _ (g : guest.State) (j : JvmState) (last : Turn guest.State) (made : HasTurns marked g last) (used : Counted → ℕ) (turns : ℕ) (after : JvmState) (walks : Walks program words classes used turns j after) (first : 1 ≤ made.earlier → (i : Counted) → class_sum i (moved (jvm_turn program words) 1 j) ≡ 0) (limit : ℕ → ℕ) where
    abbrev trail : Option guest.State → List (Step guest.State)
    trail to = trail_to made.earlier g made.before to

    -- what may be counted behind the guest's last turn, by where it leads
    abbrev pub allowance : Option guest.State → Counted → ℕ
    allowance to i = credit classes i j + guest_sum i (trail to)

    early-none : (i : Counted) (m : ℕ) → m ≤ made.earlier → class_sum i (moved (jvm_turn program words) m j) ≤ credit classes i j + guest_sum i (moved guest_step.turn m g)
    early-none i zero less = omega arith
    early-none i (suc zero) less = let none = first less i in omega (arith, none)
    early-none i (suc (suc m)) less = let few = made.few in absurd (omega (arith, few, less))

    hidden-inside : (m : ℕ) (t : guest.State) → 1 ≤ m → m ≤ made.earlier → advanced guest_step.turn m g ≡ Some t → marked t ≡ false
    hidden-inside m t one less is =
        let few = made.few in
        let same : m ≡ made.earlier = omega (arith, few, less, one) in
        let here : Some t ≡ Some made.before = sym is ∙ ap (λ n. advanced guest_step.turn n g) same ∙ made.comes in
        let e : t ≡ made.before = cc in
        ap marked e ∙ made.hidden (omega (arith, less, one))

    -- ---- the last turn moves

    pub moving-follows : (t : guest.State) → last ≡ moves t → made.earlier + 1 ≤ turns → (extra : ℕ) → Settles used (allowance (Some t)) extra t after → turns + extra ≤ limit (made.earlier + 1) → Follows machines Rests limit g j
    moving-follows t is sooner extra s room =
        let few = made.few in
        let in_time = s.in_time in
        let guest_is : guest_step.turn made.before ≡ moves t = made.last_is ∙ is in
        let guest_trail : moved guest_step.turn (made.earlier + 1) g ≡ trail (Some t) = moved_add guest_step.turn made.earlier 1 g made.before made.comes ∙ ap (λ xs. moved guest_step.turn made.earlier g ++ xs) (moved_one guest_step.turn made.before t guest_is) in
        let whole = walks-join program words classes used (λ i. 0) turns s.more j after s.rest walks s.walks in
        let part : Passes machines (made.earlier + 1) (turns + s.more) g j t s.rest = record {
          guest_comes = advanced_add guest_step.turn made.earlier 1 g made.before made.comes ∙ ap (λ x. if_moves x None (advanced guest_step.turn 0)) guest_is;
          class_comes = whole.comes;
          no_sooner = omega (arith, sooner);
          unmarked = λ m u one less at. hidden-inside m u one (omega (arith, less)) at;
          early = λ i m less. elim (cases_lt m (made.earlier + 1)) [
            | inl below ↦ early-none i m (omega (arith, below))
            | inr most ↦ let same : m ≡ made.earlier + 1 = omega (arith, less, most) in let grows = moved_grows (jvm_turn program words) (executed program (weight classes i)) m turns j (omega (arith, same, sooner)) in let cost = walks.costs i in let paid_for = s.counted i in let e : guest_sum i (moved guest_step.turn m g) ≡ guest_sum i (trail (Some t)) = ap (λ n. guest_sum i (moved guest_step.turn n g)) same ∙ ap (guest_sum i) guest_trail in omega (arith, grows, cost, paid_for, e)
          ];
          counted = λ i. let cost = whole.costs i in let paid_for = s.counted i in let e : guest_sum i (moved guest_step.turn (made.earlier + 1) g) ≡ guest_sum i (trail (Some t)) = ap (guest_sum i) guest_trail in omega (arith, cost, paid_for, e);
        } in
        passes_to_rest machines Rests limit made.earlier (turns + s.more) g j t s.rest part s.rests (omega (arith, in_time, room))

    -- ---- it calls the system, or ends the run

    module _ (outer : is_outer_turn (jvm_turn program words after) ≡ true) (sooner : made.earlier ≤ turns) (stood_for : (i : Counted) → used i ≤ allowance None i) (extra : ℕ) (room : turns + 1 + extra ≤ limit (made.earlier + 1)) where
      abbrev Goes : guest.State → JvmState → Type 0
      Goes h l = ComesToRest machines Rests (turns + 1) (limit (made.earlier + 1)) (λ i. credit classes i j) (moved guest_step.turn made.earlier g ++ went made.before h ∷ []) (moved (jvm_turn program words) turns j ++ went after l ∷ []) h l

      abbrev Stays : Type 0
      Stays = Stands machines (turns + 1) (limit (made.earlier + 1)) (λ i. credit classes i j) (moved guest_step.turn made.earlier g ++ stood made.before ∷ []) (moved (jvm_turn program words) turns j ++ stood after ∷ [])

      -- the trail up to the last turn counts no more than was used
      to-last : (i : Counted) (to : Option JvmState) → class_sum i (moved (jvm_turn program words) turns j ++ record { from = after; to = to } ∷ []) ≤ used i
      to-last i to =
          let c = executed program (weight classes i) in
          let push = sum_by_push c (moved (jvm_turn program words) turns j) (record { from = after; to = to }) in
          let none = outer-none program words classes i after to outer in
          let cost = walks.costs i in
          omega (arith, push, none, cost)

      stays : Stays
      stays = record {
        in_time = omega (arith, room);
        counted = λ i. let a = to-last i None in let b = stood_for i in omega (arith, a, b);
      }

      goes : (silent : (i : Counted) → used i ≡ 0) (h : guest.State) (l : JvmState) → Answers used (allowance (Some h)) extra h l → Goes h l
      goes silent h l a =
          let s = a.settles in
          let whole = walks-join program words classes (λ i. 0) (λ i. 0) a.turns s.more l a.after s.rest a.walks s.walks in
          let time = a.in_time in
          let later = s.in_time in
          record {
            more = a.turns + s.more;
            rest = s.rest;
            comes = whole.comes;
            rests = s.rests;
            in_time = omega (arith, time, later, room);
            counted = λ i. let c = executed program (weight classes i) in let sum = sum_by-append c (moved (jvm_turn program words) turns j ++ went after l ∷ []) (moved (jvm_turn program words) (a.turns + s.more) l) in let before = to-last i (Some l) in let behind = whole.costs i in let paid_for = s.counted i in let none = silent i in omega (arith, sum, before, behind, paid_for, none);
          }

      alike-of : (turn_last : Turn guest.State) (y : Turn JvmState) → IsLike used (λ h. allowance (Some h)) extra turn_last y → Alike Goes Stays turn_last y
      alike-of (ends e) (ends f) like = (like, stays)
      alike-of (leaves q e) (leaves r f) like = (like.0, like.1, stays)
      alike-of (asks q next) (asks r then) like = (like.0, stays, λ a fit. goes like.1 (next a) (then a) (like.2 a fit))
      alike-of _ _ like = absurd like

      pub outer-follows : IsLike used (λ h. allowance (Some h)) extra last (jvm_turn program words after) → Follows machines Rests limit g j
      outer-follows like =
          let few = made.few in
          record {
            guest_turns = made.earlier;
            class_turns = turns;
            guest_at = made.before;
            class_at = after;
            guest_comes = made.comes;
            class_comes = walks.comes;
            no_sooner = sooner;
            unmarked = hidden-inside;
            early = early-none;
            alike = subst (λ (z : Turn guest.State). Alike Goes Stays z (jvm_turn program words after)) (sym made.last_is) (alike-of last (jvm_turn program words after) like);
          }
