use Rattle.emit_methods_laws.proofs.NamedCode.Exits.{exit-well}
use Rattle.emit_methods_laws.proofs.named_code.exits_name_well.Goals as goal

pub returns : goal.returns
returns c calls class at span behind unit = exit-well calls class span behind unit at
