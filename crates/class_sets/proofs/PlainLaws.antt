-- A set of classes of version 48.0 without its names is the set of classes.
use Rattle.std.proofs.Common.{◌≡◌, ◌∙◌, ℕ, zero, suc, List, [], ◌∷◌, ◌++◌, length, Option, Some, None, Result, Ok, Err, refl, sym, ap}
use Rattle.nv_outside.specs.Files.{Files}
use Rattle.class_definition.specs.declared.class_fault.ClassFault.{ClassFault}
use Rattle.class_definition.specs.declared.class.Class.{Class}
use Rattle.class_sets.specs.declared.loaded.Loaded.TheVariants as loaded
use Rattle.class_sets.specs.ClassSets.{Found, names_asked, next}
use Rattle.class_sets.specs.ClassSets as plain
use Rattle.class_sets.specs.Waiting.{last_of}
use Rattle.class_sets.specs.declared.members.Members.{Members}
use Rattle.class_sets.specs.declared.version.Version.TheVariants.{V48}
use Rattle.class_sets.specs.NamedSets.{without_tables, no_members, with_member, set_with, named_set_of, with_named_class, with_found, named_grown, named_set}
use Rattle.class_sets.specs.Plain.{loaded_of}

plain-with : (m : Members) (classes : List Class) → classes ≡ m.classes → loaded_of (set_with m classes) ≡ plain.set_of_classes classes
plain-with m [] e = refl
plain-with m (c ∷ classes) e = ap (λ cs. loaded.Classes cs) (sym e)

plain-grown : (files : Files) (n : ℕ) (m : Members) (asked waiting : List (List ℕ)) → loaded_of (named_grown V48 files n m asked waiting) ≡ plain.grown files n m.classes asked waiting
unfolding named_grown plain.grown
plain-grown files zero m asked waiting = plain-with m m.classes refl
plain-grown files (suc n) m asked waiting = by-found (λ x a w. plain-grown files n x a w) (next files asked waiting)
  where
    Same : Type 0
    Same = (x : Members) (a w : List (List ℕ)) → loaded_of (named_grown V48 files n x a w) ≡ plain.grown files n x.classes a w

    by-class : Same → (f : Found) (read : Result Class ClassFault) → loaded_of (with_named_class (length m.classes) (λ c. named_grown V48 files n (with_member m (last_of f.asked) c) f.asked (f.waiting ++ names_asked c.class)) (without_tables read)) ≡ plain.with_class (length m.classes) (λ c. plain.grown files n (m.classes ++ c ∷ []) f.asked (f.waiting ++ names_asked c)) read
    by-class others f (Ok c) = others (with_member m (last_of f.asked) (record { class = c; tables = [] })) f.asked (f.waiting ++ names_asked c)
    by-class others f (Err fault) = refl

    by-found : Same → (found : Option Found) → loaded_of (with_found (named_set_of m) (λ f. with_named_class (length m.classes) (λ c. named_grown V48 files n (with_member m (last_of f.asked) c) f.asked (f.waiting ++ names_asked c.class)) (without_tables (plain.class_in_bytes f.bytes))) found) ≡ plain.with_file (plain.set_of_classes m.classes) (λ f. plain.with_class (length m.classes) (λ c. plain.grown files n (m.classes ++ c ∷ []) f.asked (f.waiting ++ names_asked c)) (plain.class_in_bytes f.bytes)) found
    by-found others None = plain-with m m.classes refl
    by-found others (Some f) = by-class others f (plain.class_in_bytes f.bytes)

-- without the names it is the set of the name
pub plain-set : (files : Files) (name : List ℕ) → loaded_of (named_set V48 files name) ≡ plain.class_set files name
plain-set files name = plain-grown files 1025 no_members [] (name ∷ [])
