-- The classes that files spell, one after the other.
use Rattle.std.proofs.Common.{◌≡◌, ℕ, zero, suc, List, [], ◌∷◌, map, length, Some, refl, ap, subst, slice_get}
use Rattle.std.specs.List.{AllZip}
use Rattle.class_definition.specs.declared.class.Class.{Class}
use Rattle.class_definition.specs.ClassFile.{Spells}
use Rattle.class_definition.specs.MemberNames.{own_name}
use Rattle.translate_program.specs.declared.named_file.NamedFile.{NamedFile}

abbrev pub IsSpelled : NamedFile → Class → Type 0
IsSpelled f c = Spells f.bytes.items c

-- A file is of one of these, and it has a class.
module _ {X : Type 0} (IsFile : X → NamedFile → Type 0) (class : (x : X) (f : NamedFile) → IsFile x f → Class) where
  abbrev pub classes_of : (xs : List X) (files : List NamedFile) → AllZip IsFile xs files → List Class
  classes_of [] files all = []
  classes_of (x ∷ xs) [] all = []
  classes_of (x ∷ xs) (f ∷ files) all = class x f all.0 ∷ classes_of xs files all.1

  -- the class of one stands at a place
  pub record StandsAt (x : X) (cs : List Class) (i : ℕ) : Type 0 where
    pub file : NamedFile
    pub is : IsFile x file
    pub there : slice_get cs i ≡ Some (class x file is)

  pub class-at : (xs : List X) (files : List NamedFile) (all : AllZip IsFile xs files) (i : ℕ) (x : X) → slice_get xs i ≡ Some x
      → StandsAt x (classes_of xs files all) i
  class-at [] files all i x e = absurd cc
  class-at (y ∷ xs) [] all i x e = absurd all
  class-at (y ∷ xs) (f ∷ files) all zero x e =
      let one : y ≡ x = cc in
      subst (λ (z : X). StandsAt z (classes_of (y ∷ xs) (f ∷ files) all) 0) one (record { file = f; is = all.0; there = refl })
  class-at (y ∷ xs) (f ∷ files) all (suc i) x e =
      let rest = class-at xs files all.1 i x e in record { file = rest.file; is = rest.is; there = rest.there }

  -- the class at a place is that of one
  pub record IsOf (xs : List X) (i : ℕ) (c : Class) : Type 0 where
    pub of : X
    pub at : slice_get xs i ≡ Some of
    pub file : NamedFile
    pub is : IsFile of file
    pub same : class of file is ≡ c

  pub class-of : (xs : List X) (files : List NamedFile) (all : AllZip IsFile xs files) (i : ℕ) (c : Class)
      → slice_get (classes_of xs files all) i ≡ Some c → IsOf xs i c
  class-of [] files all i c e = absurd cc
  class-of (x ∷ xs) [] all i c e = absurd all
  class-of (x ∷ xs) (f ∷ files) all zero c e = record { of = x; at = refl; file = f; is = all.0; same = cc }
  class-of (x ∷ xs) (f ∷ files) all (suc i) c e =
      let rest = class-of xs files all.1 i c e in
      record { of = rest.of; at = rest.at; file = rest.file; is = rest.is; same = rest.same }

  pub classes-long : (xs : List X) (files : List NamedFile) (all : AllZip IsFile xs files) → length (classes_of xs files all) ≡ length xs
  classes-long [] files all = refl
  classes-long (x ∷ xs) [] all = absurd all
  classes-long (x ∷ xs) (f ∷ files) all = ap suc (classes-long xs files all.1)

  pub classes-spelled : ((x : X) (f : NamedFile) (is : IsFile x f) → IsSpelled f (class x f is))
      → (xs : List X) (files : List NamedFile) (all : AllZip IsFile xs files) → AllZip IsSpelled files (classes_of xs files all)
  classes-spelled each [] [] all = tt
  classes-spelled each [] (f ∷ files) all = absurd all
  classes-spelled each (x ∷ xs) [] all = absurd all
  classes-spelled each (x ∷ xs) (f ∷ files) all = (each x f all.0, classes-spelled each xs files all.1)

  pub classes-named : (name : X → List ℕ) → ((x : X) (f : NamedFile) (is : IsFile x f) → own_name (class x f is) ≡ name x)
      → (xs : List X) (files : List NamedFile) (all : AllZip IsFile xs files) → map own_name (classes_of xs files all) ≡ map name xs
  classes-named name each [] files all = refl
  classes-named name each (x ∷ xs) [] all = absurd all
  classes-named name each (x ∷ xs) (f ∷ files) all = λ i. each x f all.0 i ∷ classes-named name each xs files all.1 i
