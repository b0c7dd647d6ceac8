use Rattle.std.proofs.Common.{◌≡◌, ℕ, ◌<◌, ◌≤◌, slice_get, Some}
use Rattle.jvm_definition.specs.declared.linked_method.LinkedMethod.{LinkedMethod}
use Rattle.jvm_steps.specs.Named.{named_locals}
use Rattle.jvm_machine.proofs.room.room_for.Given as goal

abbrev pub invariant-loop-method : goal.invariant-loop-method
invariant-loop-method l = record {
  locals : (k : ℕ) (method : LinkedMethod) → k < l.method-index → slice_get l.methods k ≡ Some method → named_locals method ≤ l.locals;
  operands : (k : ℕ) (method : LinkedMethod) → k < l.method-index → slice_get l.methods k ≡ Some method → method.stack ≤ l.operands;
}
