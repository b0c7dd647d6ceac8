-- A range of code, as what is made of it one word at a time finds it.
use Rattle.std.specs.Prelude.{◌≡◌, ℕ, ◌+◌, ◌*◌, ◌%◌, ◌<◌, ◌≤◌, false, Option, Some, None}
use Rattle.run_definition.specs.Words.{IsWord}
use Rattle.elf_definition.specs.Area.{range_end}
use Rattle.elf_definition.specs.declared.range.Range.{Range}
use Rattle.mips_definition.specs.Table.{is_float}

-- a word is there, of 32 bits, and it is none of the floating-point coprocessor
abbrev pub IsPlainWord : Option ℕ → Type 0
IsPlainWord None = ⊥
IsPlainWord (Some w) = IsWord w × (is_float w ≡ false)

-- The range is not empty, begins at a multiple of 4 and ends low. A word stands at each of its places, and none behind the last.
pub record IsWholeRange (code : ℕ → Option ℕ) (r : Range) : Type 0 where
  pub filled : 1 ≤ r.words
  pub aligned : r.first % 4 ≡ 0
  pub low : range_end r ≤ 0x7F00_0000
  pub there : (k : ℕ) → k < r.words → IsPlainWord (code (r.first + 4 * k))
  pub ends : code (range_end r) ≡ None
