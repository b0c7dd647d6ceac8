-- How the arrays of a region are kept as words.
use Rattle.std.specs.Prelude.{◌≡◌, ◌≤◌, ℕ, List, [], ◌∷◌, ◌++◌, zero, suc, length, take}
use Rattle.int_region.specs.Arrays.{Block, Contents, IsSound}

-- the words of an array: its kind, its length and its values
abbrev pub words_of : Block → List ℕ
words_of b = b.kind ∷ length b.values ∷ b.values

-- those of all arrays, one after another
abbrev pub spelled : List Block → List ℕ
spelled [] = []
spelled (b ∷ rest) = words_of b ++ spelled rest

-- the arrays that words spell, after this many values of an array that was read before
abbrev pub read_after : ℕ → List ℕ → List Block
read_after n [] = []
read_after (suc n) (w ∷ words) = read_after n words
read_after zero (kind ∷ []) = []
read_after zero (kind ∷ len ∷ words) = record { kind = kind; values = take len words }
    ∷ read_after len words

-- the region that is kept in these words, of which so many are used
abbrev pub contents_of : List ℕ → ℕ → Contents
contents_of words used = record { size = length words; arrays = read_after 0 (take used words) }

-- what is always true of what is kept
pub record IsKeptRegion (words : List ℕ) (used : ℕ) : Type 0 where
  pub is_spelled : spelled (contents_of words used).arrays ≡ take used words
  pub is_used : used ≤ length words
  pub sound : IsSound (contents_of words used)
