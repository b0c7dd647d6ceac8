-- Texts by their numbers: two numbers are the same where the texts are.
use Rattle.std.specs.Prelude.{◌≡◌, ℕ, ◌-◌, ◌==◌, nat_eq, if◌then◌else◌, List, [], slice_get, slice_index, Some}
use Rattle.std.specs.List.{IsDistinct}
use Rattle.std.specs.Cmp.Lexicographic.{pointwise}
use Rattle.class_definition.specs.declared.entry.Entry.{Entry}
use Rattle.class_definition.specs.declared.entry.Entry.TheVariants.{Utf8}

-- a text stands at a place among texts
abbrev pub IsNumber : List (List ℕ) → ℕ → List ℕ → Type 0
IsNumber texts n text = slice_get texts n ≡ Some text

-- texts that all differ, and the empty one is the first
pub record AreTexts (texts : List (List ℕ)) : Type 0 where
  pub distinct : IsDistinct (pointwise nat_eq) texts
  pub empty : IsNumber texts 0 []

-- each text keeps its number
abbrev pub Keeps : List (List ℕ) → List (List ℕ) → Type 0
Keeps old new = (n : ℕ) (text : List ℕ) → IsNumber old n text → IsNumber new n text

-- the text of an entry, and the empty one where it has none
abbrev pub entry_text : Entry → List ℕ
entry_text (Utf8 text) = text
entry_text _ = []

-- the number of the text in a slot
abbrev pub number_at : List ℕ → ℕ → ℕ
number_at numbers slot = if slot == 0 then 0 else slice_index numbers (slot - 1)
