-- JVM Specification, 5.3: the set of classes that is loaded by the name of its first one, each with the name by which it was loaded;
-- of class files of version 48.0, or (Java SE 7 edition, 4.1) of version 51.0 with their tables of frames.
use Rattle.std.specs.Prelude.{◌≡◌, ℕ, zero, suc, List, [], ◌∷◌, ◌++◌, length, Option, Some, None, Result, Ok, Err}
use Rattle.nv_outside.specs.Files.{AgreeWith, Files}
use Rattle.class_definition.specs.declared.class_fault.ClassFault.{ClassFault}
use Rattle.class_definition.specs.declared.miss.Miss.{Miss}
use Rattle.class_definition.specs.Kinds.{trailing}
use Rattle.class_definition.specs.Format.{whole, fault_at}
use Rattle.class_definition.specs.declared.class.Class.{Class}
use Rattle.class_definition.specs.declared.framed_class.FramedClass.{FramedClass}
use Rattle.class_definition.specs.FramedClassFile.{framed_class}
use Rattle.class_sets.specs.ClassSets.{Found, names_asked, next}
use Rattle.class_sets.specs.ClassSets as plain
use Rattle.class_sets.specs.Waiting.{last_of}
use Rattle.class_sets.specs.declared.members.Members.{Members}
use Rattle.class_sets.specs.declared.named_set.NamedSet.{NamedSet}
use Rattle.class_sets.specs.declared.named_set.NamedSet.TheVariants.{NoFile, Faulty, Classes}
use Rattle.class_sets.specs.declared.version.Version.{Version}
use Rattle.class_sets.specs.declared.version.Version.TheVariants.{V48, V51}

-- ---- one class

-- a class of version 48.0 has no tables
abbrev pub without_tables : Result Class ClassFault → Result FramedClass ClassFault
without_tables (Ok c) = Ok (record { class = c; tables = [] })
without_tables (Err fault) = Err fault

abbrev pub plain_class_in : List ℕ → Result FramedClass ClassFault
plain_class_in bytes = without_tables (plain.class_in_bytes bytes)

abbrev pub named_class_or_fault : ℕ → Result FramedClass Miss → Result FramedClass ClassFault
named_class_or_fault size (Ok c) = Ok c
named_class_or_fault size (Err miss) = Err (fault_at 0 size miss)

abbrev pub framed_class_in : List ℕ → Result FramedClass ClassFault
framed_class_in bytes = named_class_or_fault (length bytes) (whole framed_class trailing bytes)

-- the class that bytes spell, or the first rule that they break
abbrev pub named_class_in : Version → List ℕ → Result FramedClass ClassFault
named_class_in V48 bytes = plain_class_in bytes
named_class_in V51 bytes = framed_class_in bytes

-- ---- the set

abbrev pub members_of : List (List ℕ) → List Class → List (List (List ℕ)) → Members
members_of names classes tables =
    record { names = names; classes = classes; tables = tables }

-- one class more
abbrev pub with_member : Members → List ℕ → FramedClass → Members
with_member m name c =
    members_of (m.names ++ name ∷ []) (m.classes ++ c.class ∷ []) (m.tables ++ c.tables ∷ [])

-- no name waits any more
abbrev pub set_with : Members → List Class → NamedSet
set_with m [] = NoFile
set_with m (c ∷ classes) = Classes m

abbrev pub named_set_of : Members → NamedSet
named_set_of m = set_with m m.classes

-- the set goes on with a class, unless its bytes are at fault
abbrev pub with_named_class : ℕ → (FramedClass → NamedSet) → Result FramedClass ClassFault → NamedSet
with_named_class number more (Ok c) = more c
with_named_class number more (Err fault) = Faulty number fault

abbrev pub with_found : NamedSet → (Found → NamedSet) → Option Found → NamedSet
with_found ended more None = ended
with_found ended more (Some found) = more found

-- A set to which so many classes may come still: the names that a new class asks for wait behind all others.
unfoldable pub named_grown : Version → Files → ℕ → Members → List (List ℕ) → List (List ℕ) → NamedSet
named_grown version files zero m asked waiting = named_set_of m
named_grown version files (suc n) m asked waiting =
    with_found (named_set_of m)
    (λ found. with_named_class (length m.classes)
    (λ c. named_grown version files n (with_member m (last_of found.asked) c) found.asked
    (found.waiting ++ names_asked c.class))
    (named_class_in version found.bytes))
    (next files asked waiting)

abbrev pub no_members : Members
no_members = members_of [] [] []

-- The set of a name: it ends with the 1,025th class, which is one more than a program can have.
abbrev pub named_set : Version → Files → List ℕ → NamedSet
named_set version files name = named_grown version files 1025 no_members [] (name ∷ [])

-- a set that was loaded: that of some files, which are those that are told, where any are
pub record IsNamedSet (version : Version) (told : Option Files) (name : List ℕ) (set : NamedSet)
    : Type 0 where
  pub files : Files
  pub agree : AgreeWith told files
  pub is : set ≡ named_set version files name
