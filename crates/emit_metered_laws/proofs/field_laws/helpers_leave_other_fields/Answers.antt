use Rattle.std.proofs.Common.{◌≡◌, ℕ, ◌+◌, Option, Some, None, refl, ◌∙◌, arith}
use Rattle.jvm_definition.specs.declared.value.Value.{Value}
use Rattle.jvm_definition.specs.Effect.{Workspace}
use Rattle.jvm_definition.specs.declared.instruction.Instruction.TheVariants.{Call}
use Rattle.jvm_definition.specs.Step.{frame_placed}
use Rattle.jvm_definition_laws.specs.Stretch.{caller_workspace}
use Rattle.mem_helpers.specs.Methods.{helper_code}
use Rattle.emit_paths_laws.specs.Classes.{puts}
use Rattle.emit_paths_laws.specs.Paths.{weigh}
use Rattle.emit_simulation_laws.proofs.GuestFollows.Weights.{weigh-whole}
use Rattle.emit_metered_laws.proofs.field_laws.helpers_leave_other_fields.Goals as goal

-- behind a call the fields are those that the method left
behind : (f : ℕ) (caller back : Workspace) (result : Option Value) → back.fields f ≡ (caller_workspace result caller back).fields f
behind f caller back None = refl
behind f caller back (Some v) = refl

pub returns : goal.returns
returns c program order words m at number n j f w caller v back given result others below other enters is =
    let code = helper_code order number in
    let all = c.code_writes_the_layout.ensures.helpers order number below f other in
    let own = weigh-whole order (puts f) code in
    behind f caller back result
    ∙ (c.fields_are_left.ensures program words f).paths m at (at + 3) (n + 2) (λ weight. weight (Call number) + weigh weight code) (frame_placed m at w others)
    (frame_placed m (at + 3) (caller_workspace result caller back) others)
    (c.calls_are_paths.ensures.within program words m at number number n j code w caller v back given result others enters is) (omega (arith, all, own))
