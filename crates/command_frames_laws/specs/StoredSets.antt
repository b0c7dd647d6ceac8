-- Files in which the classes of a set are stored.
use Rattle.std.specs.Prelude.{◌≡◌, ℕ, List, [], ◌∷◌, map, flat_map, All, Some, None}
use Rattle.std.specs.List.{AllZip}
use Rattle.nv_outside.specs.Files.{Files, SetsFile}
use Rattle.class_definition.specs.Spelling.{IsBytes}
use Rattle.class_definition.specs.declared.class.Class.{Class}
use Rattle.class_definition.specs.declared.framed_class.FramedClass.{FramedClass}
use Rattle.class_definition.specs.MemberNames.{own_name}
use Rattle.class_sets.specs.ClassSets.{file_of, names_asked}
use Rattle.class_sets.specs.NamedSets.{members_of}
use Rattle.class_sets.specs.declared.members.Members.{Members}
use Rattle.stackmap_maker.specs.Refusals.{class_without_tables, tables_of}

-- the file of a class has these bytes
abbrev pub IsFile : Files → List ℕ → List ℕ → Type 0
IsFile files name bytes = files (file_of name) ≡ Some bytes

-- a class without a file gets none
abbrev pub GetsNone : Files → Files → List ℕ → Type 0
GetsNone files later name = files (file_of name) ≡ None → later (file_of name) ≡ None

-- The classes of a set, which was loaded from some files, are stored later under the names by which they were loaded.
pub record AreStored (files : Files) (members : Members) (stored : List (List ℕ)) (later : Files)
    : Type 0 where
  -- their files have these bytes
  pub held : AllZip (IsFile later) members.names stored
  -- no class for which they ask has come in
  pub others : All (GetsNone files later) (flat_map names_asked members.classes)

-- files of classes are set one after the other, and no others change
abbrev pub AllSet : Files → List (List ℕ) → List (List ℕ) → Files → Type 0
AllSet before [] [] after = (name : List ℕ) → after name ≡ before name
AllSet before (name ∷ names) (bytes ∷ stored) after =
    (between : Files) × SetsFile (Some before) (Some between) (file_of name) bytes
    × AllSet between names stored after
AllSet before _ _ after = ⊥

-- classes with their tables, under such names
abbrev pub framed_members : List (List ℕ) → List FramedClass → Members
framed_members names framed = members_of names (map class_without_tables framed) (map tables_of framed)

-- a class was loaded by its own name
abbrev pub IsOwnName : List ℕ → Class → Type 0
IsOwnName name class = own_name class ≡ name

-- each file is a list of bytes
abbrev pub HoldBytes : Files → Type 0
HoldBytes files = (name bytes : List ℕ) → files name ≡ Some bytes → IsBytes bytes
