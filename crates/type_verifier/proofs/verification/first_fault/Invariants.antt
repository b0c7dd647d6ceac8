use Rattle.std.proofs.Common.{◌≡◌, ℕ, ◌<◌, Some}
use Rattle.jvm_definition.specs.declared.linked_method.LinkedMethod.{LinkedMethod}
use Rattle.jvm_type_inference.specs.Actions.{program_over}
use Rattle.jvm_type_inference.specs.Verdict.{LeastTyping}
use Rattle.type_verifier.proofs.verification.first_fault.Given as goal

abbrev pub invariant-loop-number : goal.invariant-loop-number
invariant-loop-number l =
    (m : ℕ) (method : LinkedMethod) → m < l.number → (program_over l.methods).method m ≡ Some method → LeastTyping (program_over l.methods) method
