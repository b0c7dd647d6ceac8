use Rattle.emit_methods_laws.proofs.NamedCode.Helpers.{helper-well}
use Rattle.emit_methods_laws.proofs.named_code.helpers_name_well.Goals as goal

pub returns : goal.returns
returns c order class number h = helper-well order class number h
