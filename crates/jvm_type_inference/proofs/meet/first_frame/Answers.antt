use Rattle.std.proofs.Common.{sym, ◌∙◌}
use Rattle.jvm_type_inference.proofs.JoinLaws.{IsJoin-first, refused-first}
use Rattle.jvm_type_inference.proofs.meet.first_frame.Goals as goal

pub returns-then-are_typed : goal.returns-then-are_typed
returns-then-are_typed c = IsJoin-first c.args.frame (sym c.are_typed.ensures ∙ c.if-are_typed.true)

pub returns-else-are_typed : goal.returns-else-are_typed
returns-else-are_typed c = refused-first c.args.frame (sym c.are_typed.ensures ∙ c.if-are_typed.false)
