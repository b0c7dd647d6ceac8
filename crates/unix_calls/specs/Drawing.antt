-- Bytes drawn from what was read ahead and from a source, which may tell what it has left.
use Rattle.std.specs.Prelude.{◌≡◌, ℕ, ◌≤◌, nat_lt, IsTrue, List, [], ◌∷◌, ◌++◌, length, take, Option, Some, None, Result, Ok, Err, unwrap_or}
use Rattle.std.specs.List.{list_all}
use Rattle.std.specs.Io.KnownBytes.{Consumes, IsAtEnd}
use Rattle.run_definition.specs.Memory.{patched}
use Rattle.unix_definition.specs.Calls.{first_line}

-- numbers that are bytes
abbrev pub AreBytes : List ℕ → Type 0
AreBytes bytes = IsTrue (list_all (λ x. nat_lt x 256) bytes)

-- Bytes were drawn: `got` was read from the source for it.
pub record Draws (old new : List ℕ) (rest left : Option (List ℕ)) (bytes : List ℕ) : Type 0 where
  pub got : List ℕ
  pub consumed : Consumes rest left got
  pub is : old ++ got ≡ bytes ++ new

-- what the source is taken to have left: what it tells, or nothing
abbrev pub known : Option (List ℕ) → List ℕ
known rest = unwrap_or rest []

-- One byte is drawn, or none at the end of input; none is there after a failure.
abbrev pub DrawsByte : {E : Type 0} → List ℕ → List ℕ → Option (List ℕ) → Option (List ℕ)
    → Result (Option ℕ) E → Type 0
DrawsByte old new rest left (Ok (Some b)) = Draws old new rest left (b ∷ [])
DrawsByte old new rest left (Ok None) = Draws old new rest left [] × (new ≡ []) × IsAtEnd left
DrawsByte old new rest left (Err e) = Draws old new rest left [] × (new ≡ [])

-- Bytes that end no line may stand before others.
abbrev pub IsPlain : List ℕ → Type 0
IsPlain bytes = (behind : List ℕ) → first_line (bytes ++ behind) ≡ bytes ++ first_line behind

-- Bytes were drawn and put into a memory from a place on.
pub record Copies {C : Type 0} (put_at : C → ℕ → ℕ → C) (c d : C) (place most : ℕ) (bytes : List ℕ)
    : Type 0 where
  pub after : d ≡ patched put_at c place bytes
  pub small : AreBytes bytes
  pub short : length bytes ≤ most

-- What a read of at most so many bytes of the first line gave: they were drawn and copied.
pub record ReadsLine {C : Type 0} (put_at : C → ℕ → ℕ → C) (c d : C) (place most : ℕ)
    (old new : List ℕ) (rest left : Option (List ℕ)) (count : ℕ) : Type 0 where
  pub bytes : List ℕ
  pub drawn : Draws old new rest left bytes
  pub copied : Copies put_at c d place most bytes
  pub line : take most (first_line (bytes ++ new ++ known left)) ≡ bytes
  pub all : length bytes ≡ count

-- What it gave where the source failed: some bytes were drawn and copied, and none are left of what
-- was read ahead. Whatever follows, they are a front part of what is to be read.
pub record ReadsSome {C : Type 0} (put_at : C → ℕ → ℕ → C) (c d : C) (place most : ℕ)
    (old new : List ℕ) (rest left : Option (List ℕ)) : Type 0 where
  pub bytes : List ℕ
  pub drawn : Draws old new rest left bytes
  pub copied : Copies put_at c d place most bytes
  pub none : new ≡ []
  pub front : (behind : List ℕ) → (more : List ℕ)
      × (take most (first_line (bytes ++ behind)) ≡ bytes ++ more)
