-- How the places of a file follow one another.
use Rattle.std.proofs.Common.{ℕ, ◌≤◌, List, [], ◌∷◌, arith}
use Rattle.elf_definition.specs.declared.part.Part.{Part}
use Rattle.elf_definition.specs.FilePlaces.{part_end, contents_end}

-- the last segment's bytes end behind what is before the first one's
pub le_contents_end : (at : ℕ) (segments : List Part) → at ≤ contents_end at segments
le_contents_end at [] = omega arith
le_contents_end at (s ∷ segments) = omega (arith, le_contents_end (part_end at s) segments)
