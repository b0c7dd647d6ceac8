-- The code of pieces.
use Rattle.std.proofs.Common.{◌≡◌, ℕ, zero, suc, ◌+◌, ◌<◌, ◌≤◌, ◌==◌, ◌⊎◌, inl, inr, Bool, true, false, if◌then◌else◌, List, [], ◌∷◌, ◌++◌, refl, sym, ap, subst, ◌∙◌, arith}
use Rattle.std.specs.Prelude.{◌&&◌, ◌||◌, nat_lt, All, Some, None}
use Rattle.std.specs.List.{flat_map, range_with_len}
use Rattle.std.specs.Int.{bit_at}
use Rattle.std.proofs.lemmas.Bool.{false≢true, cases_eq, eq-eqb, eqb-true, ne_eqb, or_left, or_right}
use Rattle.std.proofs.lemmas.Nat.Bits.{bit_at-zero}
use Rattle.std.proofs.lemmas.List.Elements.{All-head, All-tail}
use Rattle.delay_slots.specs.declared.unit.Unit.{Unit}
use Rattle.delay_slots.specs.declared.unit.Unit.TheVariants as units
use Rattle.block_builder.specs.Leaders.{is_plain}
use Rattle.block_builder.specs.Registers.{unit_writes}
use Rattle.jvm_definition.specs.declared.kind.Kind.{Kind}
use Rattle.jvm_definition.specs.declared.kind.Kind.TheVariants.{Top, Int}
use Rattle.jvm_definition.specs.declared.local_kind.LocalKind.TheVariants as local_kinds
use Rattle.jvm_definition.specs.declared.instruction.Instruction.TheVariants as instructions
use Rattle.jvm_definition.specs.Typing.{TypeFrame, Below, below, with_stack, moves_kind}
use Rattle.emit_layout.specs.FieldNumbers.{register_field}
use Rattle.emit_instructions.specs.Access.{keeps, put_field}
use Rattle.emit_instructions.specs.Units.{unit_code}
use Rattle.word_emitter.specs.Pieces.{is_needed, is_written, fetched, put_back, for_registers, units_code, bank_of, warm_code}
use Rattle.emit_simulation_laws.specs.Knowing.{gaining, gained}
use Rattle.emit_simulation_laws.specs.Lawful.{IsLawful, AreAllKnown}
use Rattle.emit_simulation_laws.proofs.PieceSets.{SetLaws, are-lawful, written-kept, known-behind, NeedLaws}
use Rattle.emit_types_laws.specs.Judging.{Rules, Leads}
use Rattle.emit_types_laws.specs.Flowing.{Flows}
use Rattle.emit_types_laws.proofs.TypedSteps.Flow.{flows-from}
use Rattle.emit_types_laws.proofs.TypedSteps.Joining.{codes-lead, nothing-leads, entered-below, left-above}
use Rattle.emit_types_laws.proofs.TypedSteps.KindOrder.{same, below-refl, below-top}
use Rattle.emit_types_laws.proofs.TypedSteps.Passing.{does-flow}
use Rattle.emit_types_laws.specs.Knowing.{knowing, HelperTypes, at_exit, goal_behind, operands_behind, unknown, with_goal}
use Rattle.emit_types_laws.proofs.TypedSteps.Framed.{frame-more, framed-leads, plain_rules}
use Rattle.emit_types_laws.proofs.TypedCode.Moving.{back-moves}
use Rattle.emit_types_laws.proofs.TypedCode.Units.{behind-few, behind-plain, unit-typed}

-- ---- frames

nothing-known : (z kept : Bool) → below Top (if z then Top else if kept && false then Int else Top) ≡ true
nothing-known true kept = refl
nothing-known false true = refl
nothing-known false false = refl

pub unknown-below : (bank : ℕ) → Below unknown (knowing bank (λ r. false) Top)
unknown-below bank = record { locals = λ k. nothing-known (k == 0) (keeps bank k); stack = refl }

forgotten : (z : Bool) (goal other : Kind) → below (if z then goal else other) (if z then goal else Top) ≡ true
forgotten true goal other = below-refl goal
forgotten false goal other = below-top other

pub knowing-forgotten : (bank : ℕ) (known : ℕ → Bool) (goal : Kind) → Below (knowing bank known goal) (with_goal goal)
knowing-forgotten bank known goal = record { locals = λ k. forgotten (k == 0) goal (if keeps bank k && known k then Int else Top); stack = refl }

-- ---- registers that are put into local variables

abbrev fetched_known : (ℕ → Bool) → List ℕ → (ℕ → Bool) → ℕ → Bool
fetched_known test [] known = known
fetched_known test (r ∷ registers) known = fetched_known test registers (if test r then gaining known r else known)

fetched-local : (same_register z kept is_known : Bool) (goal : Kind) → (same_register ≡ true → z ≡ false)
    → below (if same_register then Int else if z then goal else if kept && is_known then Int else Top)
    (if z then goal else if kept && (same_register || is_known) then Int else Top) ≡ true
fetched-local true true kept is_known goal h = absurd (false≢true (sym (h refl)))
fetched-local true false true is_known goal h = refl
fetched-local true false false is_known goal h = refl
fetched-local false z kept is_known goal h = below-refl (if z then goal else if kept && is_known then Int else Top)

same-test : (k r : ℕ) → (k == r) ≡ (r == k)
same-test k r = by_cases (cases_eq k r)
  where
    by_cases : (k ≡ r) ⊎ (k ≡ r → ⊥) → (k == r) ≡ (r == k)
    by_cases (inl is) = eq-eqb k r is ∙ sym (eq-eqb r k (sym is))
    by_cases (inr differ) = ne_eqb k r differ ∙ sym (ne_eqb r k (λ e. differ (sym e)))

fetched-below : (bank r : ℕ) (known : ℕ → Bool) (goal : Kind) → 0 < r
    → Below (record { locals = λ k. if k == r then Int else (knowing bank known goal).locals k; stack = [] }) (knowing bank (gaining known r) goal)
fetched-below bank r known goal positive = record {
  locals = λ k.
      subst (λ b. below (if k == r then Int else (knowing bank known goal).locals k)
      (if k == 0 then goal else if keeps bank k && (b || known k) then Int else Top) ≡ true) (same-test k r)
      (fetched-local (k == r) (k == 0) (keeps bank k) (known k) goal
      (λ is. let e = eqb-true k r is in ne_eqb k 0 (λ none. omega (arith, e, none, positive))));
  stack = refl;
}

fetched-lead : (rules : Rules) (bank r : ℕ) (known : ℕ → Bool) (goal : Kind) → 0 < r
    → Leads rules (fetched r) (knowing bank known goal) (knowing bank (gaining known r) goal)
fetched-lead rules bank r known goal positive =
    flows-from rules (fetched r) (knowing bank known goal) (knowing bank (gaining known r) goal ∷ []) (fetched-below bank r known goal positive, tt)

perhaps-fetched : (rules : Rules) (bank r : ℕ) (known : ℕ → Bool) (goal : Kind) (b : Bool) → 0 < r
    → Leads rules (if b then fetched r else []) (knowing bank known goal) (knowing bank (if b then gaining known r else known) goal)
perhaps-fetched rules bank r known goal true positive = fetched-lead rules bank r known goal positive
perhaps-fetched rules bank r known goal false positive = nothing-leads rules (knowing bank known goal)

all-fetched : (rules : Rules) (bank : ℕ) (goal : Kind) (test : ℕ → Bool) (known : ℕ → Bool) (a n : ℕ) → 0 < a
    → Leads rules (flat_map (λ r. if test r then fetched r else []) (range_with_len a n)) (knowing bank known goal)
    (knowing bank (fetched_known test (range_with_len a n) known) goal)
all-fetched rules bank goal test known a zero positive = nothing-leads rules (knowing bank known goal)
all-fetched rules bank goal test known a (suc n) positive =
    let more = if test a then gaining known a else known in
    codes-lead rules (if test a then fetched a else []) (flat_map (λ r. if test r then fetched r else []) (range_with_len (a + 1) n))
    (knowing bank known goal) (knowing bank more goal) (knowing bank (fetched_known test (range_with_len (a + 1) n) more) goal ∷ [])
    (perhaps-fetched rules bank a known goal (test a) positive)
    (all-fetched rules bank goal test more (a + 1) n (omega arith))

-- what is known stays known
still-known : (b : Bool) (known : ℕ → Bool) (a r : ℕ) → known r ≡ true → (if b then gaining known a else known) r ≡ true
still-known true known a r is = or_right (a == r) (known r) is
still-known false known a r is = is

known-on : (test : ℕ → Bool) (known : ℕ → Bool) (a n r : ℕ) → known r ≡ true → fetched_known test (range_with_len a n) known r ≡ true
known-on test known a zero r is = is
known-on test known a (suc n) r is = known-on test (if test a then gaining known a else known) (a + 1) n r (still-known (test a) known a r is)

now-known : (b : Bool) (known : ℕ → Bool) (a r : ℕ) → a ≡ r → b ≡ true → (if b then gaining known a else known) r ≡ true
now-known true known a r is e = or_left (a == r) (known r) (eq-eqb a r is)
now-known false known a r is e = absurd (false≢true e)

fetched-is-known : (test : ℕ → Bool) (known : ℕ → Bool) (a n r : ℕ) → a ≤ r → r < a + n → test r ≡ true
    → fetched_known test (range_with_len a n) known r ≡ true
fetched-is-known test known a zero r low high is = absurd (omega arith)
fetched-is-known test known a (suc n) r low high is = by_cases (cases_eq a r)
    (λ more. fetched-is-known test (if test a then gaining known a else known) (a + 1) n r more (omega arith) is)
  where
    by_cases : (a ≡ r) ⊎ (a ≡ r → ⊥) → (a + 1 ≤ r → fetched_known test (range_with_len (a + 1) n)
        (if test a then gaining known a else known) r ≡ true)
        → fetched_known test (range_with_len (a + 1) n) (if test a then gaining known a else known) r ≡ true
    by_cases (inl here) rest = known-on test (if test a then gaining known a else known) (a + 1) n r
        (now-known (test a) known a r here (ap test here ∙ is))
    by_cases (inr differ) rest = rest (omega (arith, differ))

-- ---- registers that are put back

-- a local variable that is put back is an int
abbrev IsBack : ℕ → (ℕ → Bool) → (ℕ → Bool) → ℕ → Type 0
IsBack bank test known r = test r ≡ true → (keeps bank r ≡ true) × (known r ≡ true)

put-back-lead : (rules : Rules) (bank r : ℕ) (known : ℕ → Bool) (goal : Kind) → 0 < r → keeps bank r ≡ true → known r ≡ true
    → Leads rules (put_back r) (knowing bank known goal) (knowing bank known goal)
put-back-lead rules bank r known goal positive kept is =
    let is_int : (if r == 0 then goal else if keeps bank r && known r then Int else Top) ≡ Int = rw
    (ne_eqb r 0 (λ none. omega (arith, none, positive)), kept, is) refl in
    flows-from rules (put_back r) (knowing bank known goal) (knowing bank known goal ∷ [])
    (does-flow rules (instructions.Load local_kinds.Int r) (knowing bank known goal) (with_stack (knowing bank known goal) (Int ∷ [])) []
    (Flows rules (put_field (register_field r) ∷ []) (knowing bank known goal ∷ []))
    (ap (λ k. if moves_kind local_kinds.Int k then Some (with_stack (knowing bank known goal) (k ∷ [])) else None) is_int) refl refl
    (same (knowing bank known goal), tt))

perhaps-put-back : (rules : Rules) (bank r : ℕ) (known : ℕ → Bool) (goal : Kind) (b : Bool) → 0 < r
    → (b ≡ true → (keeps bank r ≡ true) × (known r ≡ true))
    → Leads rules (if b then put_back r else []) (knowing bank known goal) (knowing bank known goal)
perhaps-put-back rules bank r known goal true positive is = put-back-lead rules bank r known goal positive (is refl).0 (is refl).1
perhaps-put-back rules bank r known goal false positive is = nothing-leads rules (knowing bank known goal)

all-put-back : (rules : Rules) (bank : ℕ) (goal : Kind) (test : ℕ → Bool) (known : ℕ → Bool) (a n : ℕ) → 0 < a
    → ((r : ℕ) → a ≤ r → r < a + n → IsBack bank test known r)
    → Leads rules (flat_map (λ r. if test r then put_back r else []) (range_with_len a n)) (knowing bank known goal) (knowing bank known goal)
all-put-back rules bank goal test known a zero positive back = nothing-leads rules (knowing bank known goal)
all-put-back rules bank goal test known a (suc n) positive back =
    codes-lead rules (if test a then put_back a else []) (flat_map (λ r. if test r then put_back r else []) (range_with_len (a + 1) n))
    (knowing bank known goal) (knowing bank known goal) (knowing bank known goal ∷ [])
    (perhaps-put-back rules bank a known goal (test a) positive (back a (omega arith) (omega arith)))
    (all-put-back rules bank goal test known (a + 1) n (omega arith) (λ r low high. back r (omega (arith, low)) (omega (arith, high))))

-- ---- units one after the other

abbrev pub gained_by : List Unit → (ℕ → Bool) → ℕ → Bool
gained_by [] known = known
gained_by (unit ∷ units) known = gained_by units (gained (unit_writes unit) known)

-- behind the last of some units, of which the others are Plain
abbrev behind_last : ℕ → List Unit → Unit → (ℕ → Bool) → Kind → TypeFrame
behind_last bank units last known goal =
    with_stack (knowing bank (gained_by (units ++ last ∷ []) known) (goal_behind last goal)) (operands_behind last)

abbrev ArePlain : List Unit → Type 0
ArePlain units = All (λ unit. is_plain unit ≡ true) units

module _ (rules : Rules) (room : 2 ≤ rules.more) (law : NeedLaws) (helpers : HelperTypes rules.program) (bank : ℕ) (last : Unit) (goal : Kind) where
  pub units-lead : (units : List Unit) (known : ℕ → Bool) (at : ℕ) → ArePlain units → All IsLawful (units ++ last ∷ [])
      → AreAllKnown (is_needed (units ++ last ∷ [])) known
      → Leads rules (units_code bank (units ++ last ∷ []) at) (knowing bank known goal) (behind_last bank units last known goal)
  units-lead [] known at plain lawful all =
      let own = All-head IsLawful last [] lawful in
      let to = behind_last bank [] last known goal in
      codes-lead rules (unit_code bank last at) [] (knowing bank known goal) to (to ∷ [])
      (unit-typed last rules bank known goal at room helpers own (law.unit_known last known own (law.first_known last [] known all)))
      (nothing-leads rules to)
  units-lead (units.Plain i ∷ others) known at plain lawful all =
      let unit = units.Plain i in
      let rest = others ++ last ∷ [] in
      let own = All-head IsLawful unit rest lawful in
      let more = gained (unit_writes unit) known in
      codes-lead rules (unit_code bank unit at) (units_code bank rest (at + 4)) (knowing bank known goal) (knowing bank more goal)
      (behind_last bank others last more goal ∷ [])
      (unit-typed unit rules bank known goal at room helpers own (law.unit_known unit known own (law.first_known unit rest known all)))
      (units-lead others more (at + 4) (All-tail (λ unit. is_plain unit ≡ true) unit others plain) (All-tail IsLawful unit rest lawful)
      (law.others_known unit rest known own all))
  units-lead (unit ∷ others) known at plain lawful all =
      absurd (false≢true (All-head (λ unit. is_plain unit ≡ true) unit others plain))

-- the code of a unit over fields alone
pub cold-lead : (rules : Rules) → 2 ≤ rules.more → (law : NeedLaws) (helpers : HelperTypes rules.program) (unit : Unit) (at : ℕ) → IsLawful unit
    → Leads rules (unit_code 0 unit at) unknown (at_exit unit Top)
cold-lead rules room law helpers unit at lawful =
    let some : ℕ → Bool = λ r. true in
    let later = gained (unit_writes unit) some in
    let goal = goal_behind unit Top in
    entered-below rules (unit_code 0 unit at) unknown (knowing 0 some Top) (at_exit unit Top ∷ []) cold-below
    (left-above rules (unit_code 0 unit at) (knowing 0 some Top) (with_stack (knowing 0 later goal) (operands_behind unit)) (at_exit unit Top)
    (frame-more (operands_behind unit) (knowing 0 later goal) (with_goal goal) (knowing-forgotten 0 later goal))
    (unit-typed unit rules 0 some Top at room helpers lawful (law.unit_known unit some lawful (λ r positive below is. refl))))
  where
    no-bit : (b : Bool) (n : ℕ) (z : Bool) → n ≡ 0 → below Top (if z then Top else if (b && n == 1) && true then Int else Top) ≡ true
    no-bit true n true is = refl
    no-bit false n true is = refl
    no-bit true n false is = rw is refl
    no-bit false n false is = refl

    cold-below : Below unknown (knowing 0 (λ r. true) Top)
    cold-below = record { locals = λ k. no-bit (nat_lt k 32) (bit_at 0 k) (k == 0) (bit_at-zero k); stack = refl }

-- ---- a piece

gained-by-is : (laws : SetLaws) (units : List Unit) (known : ℕ → Bool) → gained_by units known ≡ gained (flat_map unit_writes units) known
gained-by-is laws [] known = refl
gained-by-is laws (unit ∷ units) known =
    gained-by-is laws units (gained (unit_writes unit) known) ∙ sym (laws.gained_joined (unit_writes unit) (flat_map unit_writes units) known)

pub warm-lead : (rules : Rules) → 2 ≤ rules.more → (law : NeedLaws) (laws : SetLaws) (helpers : HelperTypes rules.program) (units : List Unit)
    (last : Unit) (at : ℕ) → ArePlain units → All IsLawful (units ++ last ∷ [])
    → Leads rules (warm_code (units ++ last ∷ []) at) unknown (at_exit last Top)
warm-lead rules room law laws helpers units last at plain lawful =
    let own = units ++ last ∷ [] in
    let bank = bank_of own in
    let none : ℕ → Bool = λ r. false in
    let first = fetched_known (is_needed own) (range_with_len 1 31) none in
    let later = gained_by own first in
    let goal = goal_behind last Top in
    let kinds = operands_behind last in
    let few = behind-few last in
    let each = are-lawful own lawful in
    let fetch = for_registers (is_needed own) fetched in
    let back = for_registers (is_written own) put_back in
    let all : AreAllKnown (is_needed own) first = λ r positive below is. fetched-is-known (is_needed own) none 1 31 r (omega arith)
    (omega arith) is in
    let behind : (r : ℕ) → 1 ≤ r → r < 1 + 31 → IsBack bank (is_written own) later r = λ r low high is. (
      written-kept laws own r each (omega arith) (omega arith) is,
      ap (λ k. k r) (gained-by-is laws own first) ∙ known-behind laws own first r each (omega arith) (omega arith) ∙ or_left
          (is_written own r) (first r) is,
    ) in
    let begun : Leads rules fetch unknown (knowing bank first Top) =
    entered-below rules fetch unknown (knowing bank none Top) (knowing bank first Top ∷ []) (unknown-below bank)
    (all-fetched rules bank Top (is_needed own) none 1 31 (omega arith)) in
    let done = units-lead rules room law helpers bank last Top units first at plain lawful all in
    let put : Leads rules back (with_stack (knowing bank later goal) kinds) (with_stack (knowing bank later goal) kinds) =
    framed-leads rules kinds (behind-plain last) (omega (arith, few, room)) back (knowing bank later goal) (knowing bank later goal)
    (back-moves (is_written own))
    (all-put-back (plain_rules rules.program) bank goal (is_written own) later 1 31 (omega arith) behind) in
    let ended : Leads rules back (with_stack (knowing bank later goal) kinds) (at_exit last Top) =
    left-above rules back (with_stack (knowing bank later goal) kinds) (with_stack (knowing bank later goal) kinds) (at_exit last Top)
    (frame-more kinds (knowing bank later goal) (with_goal goal) (knowing-forgotten bank later goal)) put in
    codes-lead rules (fetch ++ units_code bank own at) back unknown (with_stack (knowing bank later goal) kinds) (at_exit last Top ∷ [])
    (codes-lead rules fetch (units_code bank own at) unknown (knowing bank first Top) (with_stack (knowing bank later goal) kinds ∷ []) begun done)
    ended
