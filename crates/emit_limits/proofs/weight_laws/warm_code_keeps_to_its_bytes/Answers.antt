use Rattle.emit_limits.proofs.PieceSizes.{warm-size}
use Rattle.emit_limits.proofs.weight_laws.warm_code_keeps_to_its_bytes.Goals as goal

pub returns : goal.returns
returns c units at = warm-size units at
