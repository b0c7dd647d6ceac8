-- Steps that pass the test, where their instruction is known only from a fact.
use Rattle.std.proofs.Common.{◌≡◌, ℕ, Bool, true, if◌then◌else◌, List, [], ◌++◌, length, refl, sym, ap, subst, ◌∙◌}
use Rattle.std.specs.Prelude.{◌==◌, nat_le, Option, Some, None}
use Rattle.jvm_definition.specs.declared.kind.Kind.{Kind}
use Rattle.jvm_definition.specs.declared.instruction.Instruction.{Instruction}
use Rattle.jvm_definition.specs.declared.instruction.Instruction.TheVariants.{Call}
use Rattle.jvm_definition.specs.Effect.{last_first}
use Rattle.jvm_definition.specs.Program.{Program, instruction_targets, falls_through}
use Rattle.jvm_definition.specs.Typing.{TypeFrame, exchanges, applied, call_type, given_by, type_effect, slots_of, with_stack}
use Rattle.emit_steps.specs.declared.step.Step.TheVariants.{Does}
use Rattle.emit_types_laws.specs.Judging.{Rules, TakesGives, few_operands}
use Rattle.emit_types_laws.specs.Flowing.{Ahead, When, Behind, FlowsOver}

when-from : (b : Bool) (T : Type 0) → b ≡ true → T → When b T
when-from b T is t = subst (λ c. When c T) (sym is) t

pub does-flow : (rules : Rules) (i : Instruction) (f g : TypeFrame) (ahead : Ahead) (Rest : Option TypeFrame → Ahead → Type 0)
    → applied (type_effect rules.program i) f ≡ Some g → nat_le (slots_of g.stack) few_operands ≡ true → (length (instruction_targets i) == 0) ≡ true
    → Rest (if falls_through i then Some g else None) ahead → FlowsOver rules (Does i) f ahead Rest
does-flow rules i f g ahead Rest fits room straight rest =
    subst (λ found. Behind found (λ g. When (length (instruction_targets i) == 0) (Rest (if falls_through i then Some g else None) ahead))) (sym fits)
    (when-from (nat_le (slots_of g.stack) few_operands) (When (length (instruction_targets i) == 0)
    (Rest (if falls_through i then Some g else None) ahead)) room
    (when-from (length (instruction_targets i) == 0) (Rest (if falls_through i then Some g else None) ahead) straight rest))

call-typed : (program : Program) (m : ℕ) (parameters : List Kind) (gives_int : Bool) → TakesGives program m parameters gives_int
    → call_type (program.method m) ≡ exchanges (last_first parameters []) (given_by gives_int)
call-typed program m parameters gives_int h =
    ap call_type h.there
    ∙ ap (λ kinds. exchanges (last_first kinds []) (given_by h.method.gives_int)) h.parameters_are
    ∙ ap (λ b. exchanges (last_first parameters []) (given_by b)) h.gives_are

pub call-flows : (rules : Rules) (m : ℕ) (parameters : List Kind) (gives_int : Bool) (f : TypeFrame) (left : List Kind) (ahead : Ahead)
    (Rest : Option TypeFrame → Ahead → Type 0) → TakesGives rules.program m parameters gives_int
    → applied (exchanges (last_first parameters []) (given_by gives_int)) f ≡ Some (with_stack f (given_by gives_int ++ left))
    → nat_le (slots_of (given_by gives_int ++ left)) few_operands ≡ true → Rest (Some (with_stack f (given_by gives_int ++ left))) ahead
    → FlowsOver rules (Does (Call m)) f ahead Rest
call-flows rules m parameters gives_int f left ahead Rest h fits room rest =
    does-flow rules (Call m) f (with_stack f (given_by gives_int ++ left)) ahead Rest
    (ap (λ effect. applied effect f) (call-typed rules.program m parameters gives_int h) ∙ fits) room refl rest
