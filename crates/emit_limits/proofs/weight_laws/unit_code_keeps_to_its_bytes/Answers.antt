use Rattle.emit_limits.proofs.UnitSizes.{unit-size}
use Rattle.emit_limits.proofs.weight_laws.unit_code_keeps_to_its_bytes.Goals as goal

pub returns : goal.returns
returns c bank unit at = unit-size bank unit at
