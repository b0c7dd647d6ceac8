use Rattle.emit_methods_laws.proofs.WholeCode.Helpers.{helper-can-be}
use Rattle.emit_methods_laws.proofs.whole.helpers_are_whole.Goals as goal

pub returns : goal.returns
returns c r order number has few = helper-can-be r order number (c.helpers_are_typed.ensures order) has few
