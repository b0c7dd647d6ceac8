-- The files of a shelf: a map from names to bytes, which a shelf may tell or not.
use Rattle.std.specs.Prelude.{◌≡◌, ◌≢◌, ℕ, List, Option, Some, None, option_map, Result, Ok, Err, Vec, ⊤}
use Rattle.std.specs.declared.alloc.Global.{Global}
use Rattle.nv_outside.specs.declared.shelf_error.ShelfError.{ShelfError}
use Rattle.nv_outside.specs.declared.shelf_error.ShelfError.TheVariants.{Failed, NoMemory}

abbrev pub Files : Type 0
Files = List ℕ → Option (List ℕ)

-- some files are those that are told, where any are
abbrev pub AgreeWith : Option Files → Files → Type 0
AgreeWith None files = ⊤
AgreeWith (Some told) files = files ≡ told

-- told files are still told, and are as before
abbrev pub SameFiles : Option Files → Option Files → Type 0
SameFiles None new = ⊤
SameFiles (Some old) None = ⊥
SameFiles (Some old) (Some new) = (name : List ℕ) → new name ≡ old name

-- one file may have changed, and the others are as before
abbrev pub OthersStay : Option Files → Option Files → List ℕ → Type 0
OthersStay None new changed = ⊤
OthersStay (Some old) None changed = ⊥
OthersStay (Some old) (Some new) changed = (name : List ℕ) → name ≢ changed → new name ≡ old name

-- one file has these bytes, and the others are as before
abbrev pub SetsFile : Option Files → Option Files → List ℕ → List ℕ → Type 0
SetsFile None new name bytes = ⊤
SetsFile (Some old) None name bytes = ⊥
SetsFile (Some old) (Some new) name bytes = (new name ≡ Some bytes)
    × ((other : List ℕ) → other ≢ name → new other ≡ old other)

-- what was found under a name is what the files have there
abbrev pub Finds : Option Files → List ℕ → Option (Vec ℕ Global) → Type 0
Finds None name found = ⊤
Finds (Some files) name found = option_map (λ v. v.items) found ≡ files name

-- What `store` leaves: the file is set; after a failure it may hold anything; after want of memory
-- nothing has changed.
abbrev pub Stores : Option Files → Option Files → List ℕ → List ℕ → Result (Unit {0}) ShelfError
    → Type 0
Stores old new name bytes (Ok done) = SetsFile old new name bytes
Stores old new name bytes (Err Failed) = OthersStay old new name
Stores old new name bytes (Err NoMemory) = SameFiles old new
