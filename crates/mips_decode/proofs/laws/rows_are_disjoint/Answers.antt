use Rattle.mips_decode.proofs.Apart.{rows_apart}
use Rattle.mips_decode.proofs.laws.rows_are_disjoint.Goals as goal

pub returns : goal.returns
returns c = rows_apart
