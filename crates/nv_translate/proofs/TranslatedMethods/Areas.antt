-- Where a program has code.
use Rattle.std.proofs.Common.{◌≡◌, ℕ, ◌%◌, ◌==◌, ◌&&◌, Bool, true, false, if◌then◌else◌, Some, None, refl, eqb-true}
use Rattle.elf_definition.specs.Area.{area}
use Rattle.elf_definition.specs.Start.{Source, image_of, code_at}

both : (even on : Bool) (x w : ℕ) → (if even && on then Some x else None) ≡ Some w → (even ≡ true) × (on ≡ true)
both true true x w is = (refl, refl)
both true false x w is = absurd (cc)
both false on x w is = absurd (cc)

pub in-area : (source : Source) (a w : ℕ) → (image_of source).code a ≡ Some w → (a % 4 ≡ 0) × (area source.file a ≡ true)
unfolding image_of code_at
in-area source a w is =
    let tests = both (a % 4 == 0) (area source.file a) _ w is in
    (eqb-true (a % 4) 0 tests.0, tests.1)
