-- What makes a description a format: its two directions fit together.
use Rattle.std.specs.Prelude.{◌≡◌, ℕ, ◌<◌, true, List, ◌++◌, slice_index, Ok}
use Rattle.class_definition.specs.Format.{Format}

-- a list of bytes
abbrev pub IsBytes : List ℕ → Type 0
IsBytes bytes = (i : ℕ) → slice_index bytes i < 256

-- the bytes begin with a value's spelling
pub record Begins {A : Type 0} (f : Format A) (bytes : List ℕ) (a : A) (rest : List ℕ)
    : Type 0 where
  pub fits : f.fits a ≡ true
  pub spelled : bytes ≡ f.spell a ++ rest

pub record IsFormat {A : Type 0} (f : Format A) : Type 0 where
  -- what is spelled is read back, whatever follows it
  pub back : (a : A) (rest : List ℕ) → f.fits a ≡ true → f.read (f.spell a ++ rest) ≡ Ok (a, rest)
  -- what is read is spelled so
  pub taken : (bytes : List ℕ) (a : A) (rest : List ℕ) → IsBytes bytes → f.read bytes ≡ Ok (a, rest)
      → Begins f bytes a rest

-- the bytes are a value's spelling
pub record SpellsBy {A : Type 0} (f : Format A) (bytes : List ℕ) (a : A) : Type 0 where
  pub fits : f.fits a ≡ true
  pub spelled : bytes ≡ f.spell a
