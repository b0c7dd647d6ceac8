-- The answer's line.
use Rattle.std.specs.Prelude.{◌≡◌, ◌⊎◌, List, ℕ}
use Rattle.command_deeds.specs.World.{FailsIn, SameShelf, Seen, Takes, World}
use Rattle.command_deeds.specs.declared.done.Done.{Done}
use Rattle.command_deeds.specs.declared.done.Done.TheVariants.{WriteFault}

-- The line is written, and the answer is given; where that fails, a front part of it is written,
-- but not all, and the answer is a write fault.
abbrev pub Tells : List ℕ → Seen (List ℕ) → Seen (List ℕ) → Done → Done → Type 0
Tells line old new answer said =
    ((said ≡ answer) × Takes old new line)
    ⊎ ((said ≡ WriteFault) × FailsIn old new line)

-- nothing but error output changes for it
abbrev pub Says : List ℕ → World → World → Done → Done → Type 0
Says line u v answer said = SameShelf u.shelf v.shelf × (v.input ≡ u.input) × (v.out ≡ u.out)
    × Tells line u.err v.err answer said
