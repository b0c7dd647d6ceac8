-- The pages of a program that are not all zero.
use Rattle.std.specs.Prelude.{ℕ, zero, suc, ◌+◌, ◌*◌, if◌then◌else◌, List, [], ◌∷◌, ◌++◌, map}
use Rattle.std.specs.List.{range_with_len}
use Rattle.elf_definition.specs.Segments.{live}
use Rattle.elf_definition.specs.Start.{Source}
use Rattle.elf_definition.specs.Content.{is_filled_page, stored_word}

-- a page by its number, with its words
pub record Page : Type 0 where
  pub number : ℕ
  pub words : List ℕ

-- the words of a page, in the order of their addresses
unfoldable pub page_words : Source → ℕ → List ℕ
page_words s page =
    map (λ k. stored_word s.file (live s.file) (4096 * page + 4 * k)) (range_with_len 0 1024)

abbrev pub page_at : Source → ℕ → Page
page_at s page = record { number = page; words = page_words s page }

-- those below a page, in rising order
unfoldable pub filled_below : Source → ℕ → List Page
filled_below s zero = []
filled_below s (suc page) =
    filled_below s page ++ (if is_filled_page s.file (live s.file) page then page_at s page ∷ []
    else [])
