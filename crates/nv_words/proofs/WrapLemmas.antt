-- Words of signed numbers.
use Rattle.std.proofs.Common.{◌≡◌, ℤ, pos, negsuc, arith}
use Rattle.std.specs.Prelude.{FitsSigned}
use Rattle.std.specs.Int.{w32}
use Rattle.run_definition.specs.Words.{IsWord, unsigned_of, wrapped}

pub wrapped-word : (z : ℤ) → IsWord (wrapped z)
wrapped-word (pos n) = omega arith
wrapped-word (negsuc n) = omega arith

pub wrapped-fits : (z : ℤ) → FitsSigned w32 z → unsigned_of z ≡ wrapped z
wrapped-fits (pos n) h = omega (arith, h.sfits)
wrapped-fits (negsuc n) h = omega (arith, h.sfits)
