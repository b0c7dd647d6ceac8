-- Classes with what stood in their pools, with entries behind it, and with other code of the same methods.
use Rattle.std.specs.Prelude.{◌≡◌, ℕ, ◌⊎◌, ◌||◌, true, List, [], ◌∷◌, slice_get, Option, Some}
use Rattle.class_definition.specs.declared.entry.Entry.{Entry}
use Rattle.class_definition.specs.declared.entry.Entry.TheVariants.{Utf8, ClassName}
use Rattle.class_definition.specs.NameGrammar.{is_array_name}
use Rattle.class_definition.specs.PoolChecks.{entry_at, text_at}
use Rattle.class_definition.specs.declared.class.Class.{Class}
use Rattle.class_definition.specs.declared.method.Method.{Method}
use Rattle.class_definition.specs.ClassFile.{class}
use Rattle.class_definition.specs.MemberNames.{is_known}

-- methods with the same names and descriptors
abbrev pub SameNames : List Method → List Method → Type 0
SameNames [] [] = Unit {0}
SameNames [] (n ∷ new) = ⊥
SameNames (m ∷ old) [] = ⊥
SameNames (m ∷ old) (n ∷ new) = (n.name ≡ m.name) × (n.desc ≡ m.desc) × SameNames old new

-- what stands in a slot stays there
abbrev pub Stays : List Entry → List Entry → Type 0
Stays old new = (slot : ℕ) (e : Entry) → entry_at old slot ≡ Some e → entry_at new slot ≡ Some e

pub record IsLike (old new : Class) : Type 0 where
  pub fits : class.fits old ≡ true
  pub stays : Stays old.pool new.pool
  pub this : new.this_class ≡ old.this_class
  pub fields : new.fields ≡ old.fields
  pub methods : SameNames old.methods new.methods

-- an entry that names nothing, or a class that each set of classes knows
abbrev pub IsNew : List Entry → Entry → Type 0
IsNew entries (Utf8 characters) = Unit {0}
IsNew entries (ClassName n) = (name : List ℕ) × (text_at entries n ≡ Some name)
    × ((is_array_name name || is_known name) ≡ true)
IsNew entries _ = ⊥

-- and its pool has no other entries
pub record IsLikeIn (old new : Class) : Type 0 where
  pub like : IsLike old new
  pub entries : (i : ℕ) (e : Entry) → slice_get new.pool i ≡ Some e
      → (slice_get old.pool i ≡ Some e) ⊎ IsNew new.pool e

-- class by class
abbrev pub AreLikeIn : List Class → List Class → Type 0
AreLikeIn [] [] = Unit {0}
AreLikeIn [] (d ∷ new) = ⊥
AreLikeIn (c ∷ old) [] = ⊥
AreLikeIn (c ∷ old) (d ∷ new) = IsLikeIn c d × AreLikeIn old new
