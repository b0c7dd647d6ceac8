-- What an image keeps of the segments' pages: marks, and the words of the pages that are not all zero.
use Rattle.std.specs.Prelude.{ℕ, ◌+◌, ◌-◌, ◌*◌, ◌/◌, ◌%◌, ◌==◌, Bool, false, if◌then◌else◌, List, slice_index, slice_index_or}
use Rattle.elf_definition.specs.Pages.{count_below}
use Rattle.run_definition.specs.Words.{lane_of_word}

-- a page is marked; none past the end of the marks is
abbrev pub marked : List Bool → ℕ → Bool
marked marks page = slice_index_or marks page false

-- the pages that pass a test are numbered from 1 on, and the others have the number 0
abbrev pub number_of : (ℕ → Bool) → ℕ → ℕ
number_of test page = if test page then count_below test page + 1 else 0

-- the byte at a place of words, each of four bytes, the most significant first
abbrev pub byte_in : List ℕ → ℕ → ℕ
byte_in words at = lane_of_word (slice_index words (at / 4)) (at % 4)

-- the k-th word of memory: a page with index 0 is all zero, one with index n is the n-th of those stored
unfoldable pub table_word : List ℕ → List ℕ → ℕ → ℕ
table_word index stored k =
    let place = slice_index index (k / 1024) in
    if place == 0 then 0 else slice_index stored (1024 * (place - 1) + k % 1024)

-- the byte at an address
abbrev pub table_byte : List ℕ → List ℕ → ℕ → ℕ
table_byte index stored at = lane_of_word (table_word index stored (at / 4)) (at % 4)
