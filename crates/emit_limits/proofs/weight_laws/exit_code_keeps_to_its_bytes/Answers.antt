use Rattle.emit_limits.proofs.UnitSizes.{exit-size}
use Rattle.emit_limits.proofs.weight_laws.exit_code_keeps_to_its_bytes.Goals as goal

pub returns : goal.returns
returns c span behind unit at = exit-size span behind unit at
