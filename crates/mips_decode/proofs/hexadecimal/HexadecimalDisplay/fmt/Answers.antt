use Rattle.std.proofs.Common.{rules}
use Rattle.std.specs.Fmt.{digits}
use Rattle.std.specs.Prelude.{true}
use Rattle.mips_decode.proofs.Padded.{eight_digits}
use Rattle.mips_decode.proofs.hexadecimal.HexadecimalDisplay.fmt.Goals as goal

pub returns-clause-writes : goal.returns-clause-writes
returns-clause-writes g c =
    let padded = eight_digits (digits 16 true c.args.self.now.0) in rw (← padded) (search rules)
