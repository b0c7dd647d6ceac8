-- The arrays of a region, where each stands, and how they change.
use Rattle.std.specs.Prelude.{◌≡◌, ◌==◌, ◌<◌, ◌≤◌, ◌+◌, ℕ, List, [], ◌∷◌, Option, Some, None, if◌then◌else◌, IsSome, length, replicate, slice_set, take}
use Rattle.nv_values.specs.RegionWords.{most_region_words}

-- An array: its kind, 0 for ints and 1 for references, and its values.
pub record Block : Type 0 where
  pub kind : ℕ
  pub values : List ℕ

-- What a region holds: how many words it has, and its live arrays in the order in which they were made.
pub record Contents : Type 0 where
  pub size : ℕ
  pub arrays : List Block

-- the words that an array uses: one for each value, and two
abbrev pub weight : Block → ℕ
weight b = length b.values + 2

-- the words that these arrays use together
abbrev pub used_by : List Block → ℕ
used_by [] = 0
used_by (b ∷ rest) = weight b + used_by rest

-- The array at a place, if one stands there. The first one stands at `first`, and each other one where the words of the one
-- before it end.
abbrev pub array_from : ℕ → List Block → ℕ → Option Block
array_from first [] p = None
array_from first (b ∷ rest) p = if p == first then Some b else array_from (first + weight b) rest p

-- the same in a region, where an array's place is the number of words that the arrays before it use
abbrev pub array_at : List Block → ℕ → Option Block
array_at arrays p = array_from 0 arrays p

-- an array stands at exactly this place
abbrev pub IsLive : List Block → ℕ → Type 0
IsLive arrays p = IsSome (array_at arrays p)

-- its kind and its values, 0 and none where no array stands there
abbrev pub kind_in : Option Block → ℕ
kind_in None = 0
kind_in (Some b) = b.kind

abbrev pub values_in : Option Block → List ℕ
values_in None = []
values_in (Some b) = b.values

abbrev pub kind_at : List Block → ℕ → ℕ
kind_at arrays p = kind_in (array_at arrays p)

abbrev pub values_at : List Block → ℕ → List ℕ
values_at arrays p = values_in (array_at arrays p)

-- an array of zeros
abbrev pub zeros : ℕ → ℕ → Block
zeros kind len = record { kind = kind; values = replicate len 0 }

-- an array with another value at an index
abbrev pub with_element : ℕ → ℕ → Block → Block
with_element i v b = record b { values = slice_set b.values i v }

-- the arrays with another value at an index of the one at a place, where the first one stands at `first`
abbrev pub with_value_from : ℕ → List Block → ℕ → ℕ → ℕ → List Block
with_value_from first [] p i v = []
with_value_from first (b ∷ rest) p i v =
    if p == first then (with_element i v b ∷ rest)
    else (b ∷ with_value_from (first + weight b) rest p i v)

abbrev pub with_value : List Block → ℕ → ℕ → ℕ → List Block
with_value arrays p i v = with_value_from 0 arrays p i v

-- some of the arrays, from the first on, use exactly this many words
abbrev pub IsMark : List Block → ℕ → Type 0
IsMark arrays m = (k : ℕ) × (used_by (take k arrays) ≡ m)

-- what is true of every region
pub record IsSound (c : Contents) : Type 0 where
  pub within : used_by c.arrays ≤ c.size
  pub few : c.size ≤ most_region_words
  pub kinds : (p : ℕ) → kind_at c.arrays p < 2
