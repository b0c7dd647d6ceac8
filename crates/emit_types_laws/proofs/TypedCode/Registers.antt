-- Registers that are read and written.
use Rattle.std.proofs.Common.{◌≡◌, ℕ, ◌==◌, Bool, true, false, if◌then◌else◌, ◌⊎◌, inl, inr, List, [], ◌∷◌, refl, ap, sym, subst}
use Rattle.std.specs.Prelude.{◌&&◌, ◌||◌, not, nat_le, Option, Some, None}
use Rattle.std.proofs.lemmas.Bool.{eqb-false, eq-eqb, ne_eqb, cases_eq}
use Rattle.jvm_definition.specs.declared.stack_name.StackName.TheVariants.{Pop}
use Rattle.jvm_definition.specs.declared.constant.Constant.TheVariants as constants
use Rattle.jvm_definition.specs.declared.kind.Kind.{Kind}
use Rattle.jvm_definition.specs.declared.kind.Kind.TheVariants.{Top, Int}
use Rattle.jvm_definition.specs.declared.local_kind.LocalKind.TheVariants as local_kinds
use Rattle.jvm_definition.specs.declared.instruction.Instruction.TheVariants as instructions
use Rattle.jvm_definition.specs.Typing.{TypeFrame, Below, below, slots_of, with_stack, moves_kind}
use Rattle.emit_steps.specs.declared.step.Step.TheVariants.{Does}
use Rattle.emit_layout.specs.FieldNumbers.{register_field}
use Rattle.emit_instructions.specs.Access.{keeps, get_register, put_register, get_field, put_field, push_word}
use Rattle.emit_simulation_laws.specs.Knowing.{IsKnown, gaining}
use Rattle.emit_types_laws.specs.Judging.{Rules, few_operands}
use Rattle.emit_types_laws.specs.Flowing.{Ahead, FlowsOver}
use Rattle.emit_types_laws.proofs.TypedSteps.Passing.{does-flow}
use Rattle.emit_types_laws.proofs.TypedSteps.KindOrder.{below-refl}
use Rattle.emit_types_laws.specs.Knowing.{knowing}

-- ---- reading

-- a register can be read: it is register 0, it is in its field, or its local variable is an int
abbrev pub Reads : ℕ → ℕ → (ℕ → Kind) → Type 0
Reads bank r locals = (r == 0) ≡ false → keeps bank r ≡ true → locals r ≡ Int

pub get-flow : (rules : Rules) (bank r : ℕ) (f : TypeFrame) (ahead : Ahead) (Rest : Option TypeFrame → Ahead → Type 0) → Reads bank r f.locals
    → nat_le (slots_of (Int ∷ f.stack)) few_operands ≡ true → Rest (Some (with_stack f (Int ∷ f.stack))) ahead
    → FlowsOver rules (get_register bank r) f ahead Rest
get-flow rules bank r f ahead Rest reads room rest = by_number (r == 0) reads
  where
    by_bank : (b : Bool) → (b ≡ true → f.locals r ≡ Int)
        → FlowsOver rules (if b then Does (instructions.Load local_kinds.Int r) else get_field (register_field r)) f ahead Rest
    by_bank true is =
        does-flow rules (instructions.Load local_kinds.Int r) f (with_stack f (Int ∷ f.stack)) ahead Rest
        (ap (λ k. if moves_kind local_kinds.Int k then Some (with_stack f (k ∷ f.stack)) else None) (is refl)) room refl rest
    by_bank false is = does-flow rules (instructions.Get (register_field r) Int) f (with_stack f (Int ∷ f.stack)) ahead Rest refl room refl rest

    by_number : (b : Bool) → (b ≡ false → keeps bank r ≡ true → f.locals r ≡ Int)
        → FlowsOver rules (if b then push_word 0 else if keeps bank r then Does (instructions.Load local_kinds.Int r) else get_field
        (register_field r)) f ahead Rest
    by_number true is = does-flow rules (instructions.Push (constants.Int 0)) f (with_stack f (Int ∷ f.stack)) ahead Rest refl room refl rest
    by_number false is = by_bank (keeps bank r) (is refl)

-- a known register can be read
pub known-reads : (bank r : ℕ) (known : ℕ → Bool) (goal : Kind) → IsKnown known r → Reads bank r (knowing bank known goal).locals
known-reads bank r known goal (inl zero_is) some kept = absurd (eqb-false r 0 some zero_is)
known-reads bank r known goal (inr is) some kept = rw (some, kept, is.1) refl

-- ---- writing

-- a register is written to its local variable
abbrev pub writes_local : ℕ → ℕ → Bool
writes_local bank r = not (r == 0) && keeps bank r

abbrev pub put_frame : ℕ → ℕ → (ℕ → Kind) → List Kind → TypeFrame
put_frame bank r locals stack = record { locals = λ k. if writes_local bank r && k == r then Int else locals k; stack = stack }

abbrev pub with_operand : (ℕ → Kind) → List Kind → TypeFrame
with_operand locals stack = record { locals = locals; stack = Int ∷ stack }

abbrev put_where : Bool → ℕ → (ℕ → Kind) → List Kind → TypeFrame
put_where b r locals stack = record { locals = λ k. if b && k == r then Int else locals k; stack = stack }

pub put-flow : (rules : Rules) (bank r : ℕ) (locals : ℕ → Kind) (stack : List Kind) (ahead : Ahead) (Rest : Option TypeFrame → Ahead → Type 0)
    → nat_le (slots_of stack) few_operands ≡ true → Rest (Some (put_frame bank r locals stack)) ahead
    → FlowsOver rules (put_register bank r) (with_operand locals stack) ahead Rest
put-flow rules bank r locals stack ahead Rest room rest = by_number (r == 0) rest
  where
    by_bank : (b : Bool) → Rest (Some (put_where b r locals stack)) ahead
        → FlowsOver rules (if b then Does (instructions.Store local_kinds.Int r) else put_field (register_field r))
        (with_operand locals stack) ahead Rest
    by_bank true rest = does-flow rules (instructions.Store local_kinds.Int r) (with_operand locals stack)
        (put_where true r locals stack) ahead Rest refl room refl rest
    by_bank false rest = does-flow rules (instructions.Put (register_field r) Int) (with_operand locals stack)
        (put_where false r locals stack) ahead Rest refl room refl rest

    by_number : (b : Bool) → Rest (Some (put_where (not b && keeps bank r) r locals stack)) ahead
        → FlowsOver rules (if b then Does (instructions.Stack Pop) else if keeps bank r then Does
        (instructions.Store local_kinds.Int r) else put_field (register_field r)) (with_operand locals stack) ahead Rest
    by_number true rest = does-flow rules (instructions.Stack Pop) (with_operand locals stack)
        (put_where false r locals stack) ahead Rest refl room refl rest
    by_number false rest = by_bank (keeps bank r) rest

-- ---- a written register is known

same-register : (w z kept is_known : Bool) (goal : Kind) → w ≡ (not z && kept)
    → below (if w && true then Int else if z then goal else if kept && is_known then Int else Top)
    (if z then goal else if kept && (true || is_known) then Int else Top) ≡ true
same-register w true kept is_known goal is = rw is (below-refl goal)
same-register w false true is_known goal is = rw is refl
same-register w false false is_known goal is = rw is refl

other-register : (w z kept is_known : Bool) (goal : Kind)
    → below (if w && false then Int else if z then goal else if kept && is_known then Int else Top)
    (if z then goal else if kept && (false || is_known) then Int else Top) ≡ true
other-register true z kept is_known goal = below-refl (if z then goal else if kept && is_known then Int else Top)
other-register false z kept is_known goal = below-refl (if z then goal else if kept && is_known then Int else Top)

register-below : (bank r k : ℕ) (known : ℕ → Bool) (goal : Kind) → (k ≡ r) ⊎ (k ≡ r → ⊥)
    → below ((put_frame bank r (knowing bank known goal).locals []).locals k) ((knowing bank (gaining known r) goal).locals k) ≡ true
register-below bank r k known goal (inl is) =
    rw (eq-eqb k r is, eq-eqb r k (sym is))
    (same-register (writes_local bank r) (k == 0) (keeps bank k) (known k) goal (ap (λ n. not (n == 0) && keeps bank n) (sym is)))
register-below bank r k known goal (inr differ) =
    rw (ne_eqb k r differ, ne_eqb r k (λ e. differ (sym e)))
    (other-register (writes_local bank r) (k == 0) (keeps bank k) (known k) goal)

pub put-below : (bank r : ℕ) (known : ℕ → Bool) (goal : Kind)
    → Below (put_frame bank r (knowing bank known goal).locals []) (knowing bank (gaining known r) goal)
put-below bank r known goal = record { locals = λ k. register-below bank r k known goal (cases_eq k r); stack = refl }

-- nothing is written to register 0
pub zero-below : (bank r : ℕ) (known : ℕ → Bool) (goal : Kind) → (r == 0) ≡ true
    → Below (knowing bank known goal) (knowing bank (gaining known r) goal)
zero-below bank r known goal is =
    subst (λ b. Below (put_where (not b && keeps bank r) r (knowing bank known goal).locals []) (knowing bank (gaining known r) goal)) is
    (put-below bank r known goal)
