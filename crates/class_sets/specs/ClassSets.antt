-- JVM Specification, 5.3: the set of classes that is loaded by the name of its first one. Names and
-- files are lists of characters.
use Rattle.std.specs.Prelude.{◌≡◌, ℕ, zero, suc, ◌||◌, Bool, not, if◌then◌else◌, List, [], ◌∷◌, ◌++◌, length, filter, flat_map, codes, Option, Some, None, option_and_then, option_to_list, Result, Ok, Err}
use Rattle.std.specs.List.{list_any}
use Rattle.nv_outside.specs.Files.{AgreeWith, Files}
use Rattle.class_definition.specs.declared.class_fault.ClassFault.{ClassFault}
use Rattle.class_definition.specs.declared.miss.Miss.{Miss}
use Rattle.class_definition.specs.Kinds.{trailing}
use Rattle.class_definition.specs.Format.{whole, fault_at}
use Rattle.class_definition.specs.declared.entry.Entry.{Entry}
use Rattle.class_definition.specs.NameGrammar.{same_text, is_array_name}
use Rattle.class_definition.specs.PoolEntries.{class_entry_name}
use Rattle.class_definition.specs.PoolChecks.{text_at}
use Rattle.class_definition.specs.declared.class.Class.{Class}
use Rattle.class_definition.specs.ClassFile as format
use Rattle.class_definition.specs.MemberNames.{is_known}
use Rattle.class_sets.specs.declared.loaded.Loaded.{Loaded}
use Rattle.class_sets.specs.declared.loaded.Loaded.TheVariants.{NoFile, Faulty, Classes}

-- ---- names

-- the file of a class
abbrev pub file_of : List ℕ → List ℕ
file_of name = name ++ codes ".class"

-- the types of arrays and the known classes have no file
abbrev pub has_file : List ℕ → Bool
has_file name = not (is_array_name name || is_known name)

-- the name that an entry asks for, if it is the entry of a class
abbrev pub asked_in : List Entry → Entry → List (List ℕ)
asked_in pool e = filter has_file (option_to_list (option_and_then (text_at pool) (class_entry_name e)))

-- the names that a class asks for, in the order of its slots
abbrev pub names_asked : Class → List (List ℕ)
names_asked c = flat_map (asked_in c.pool) c.pool

-- a name is one of some
abbrev pub is_among : List (List ℕ) → List ℕ → Bool
is_among names name = list_any (same_text name) names

-- ---- one class

-- the class that bytes spell, or the first rule that they break
abbrev pub class_or_fault : ℕ → Result Class Miss → Result Class ClassFault
class_or_fault size (Ok c) = Ok c
class_or_fault size (Err miss) = Err (fault_at 0 size miss)

abbrev pub class_in_bytes : List ℕ → Result Class ClassFault
class_in_bytes bytes = class_or_fault (length bytes) (whole format.class trailing bytes)

-- a file that was found: its bytes, the names that were asked for by then, and those that still
-- wait
pub record Found : Type 0 where
  pub bytes : List ℕ
  pub asked : List (List ℕ)
  pub waiting : List (List ℕ)

abbrev pub found_or : Option (List ℕ) → List (List ℕ) → List (List ℕ) → Option Found → Option Found
found_or None asked waiting others = others
found_or (Some bytes) asked waiting others =
    Some (record { bytes = bytes; asked = asked; waiting = waiting })

-- the file of the first waiting name that was not asked for before and has one
unfoldable pub next : Files → List (List ℕ) → List (List ℕ) → Option Found
next files asked [] = None
next files asked (name ∷ waiting) =
    if is_among asked name then next files asked waiting
    else found_or (files (file_of name)) (asked ++ name ∷ []) waiting
    (next files (asked ++ name ∷ []) waiting)

-- ---- the set

-- no name waits any more
abbrev pub set_of_classes : List Class → Loaded
set_of_classes [] = NoFile
set_of_classes (c ∷ classes) = Classes (c ∷ classes)

-- the set goes on with a class, unless its bytes are at fault
abbrev pub with_class : ℕ → (Class → Loaded) → Result Class ClassFault → Loaded
with_class number more (Ok c) = more c
with_class number more (Err fault) = Faulty number fault

abbrev pub with_file : Loaded → (Found → Loaded) → Option Found → Loaded
with_file ended more None = ended
with_file ended more (Some found) = more found

-- A set to which so many classes may come still: the names that a new class asks for wait behind
-- all others.
unfoldable pub grown : Files → ℕ → List Class → List (List ℕ) → List (List ℕ) → Loaded
grown files zero classes asked waiting = set_of_classes classes
grown files (suc n) classes asked waiting =
    with_file (set_of_classes classes)
    (λ found. with_class (length classes)
    (λ c. grown files n (classes ++ c ∷ []) found.asked (found.waiting ++ names_asked c))
    (class_in_bytes found.bytes))
    (next files asked waiting)

-- The set of a name: it ends with the 1,025th class, which is one more than a program can have.
abbrev pub class_set : Files → List ℕ → Loaded
class_set files name = grown files 1025 [] [] (name ∷ [])

-- a set that was loaded: that of some files, which are those that are told, where any are
pub record IsLoaded (told : Option Files) (name : List ℕ) (loaded : Loaded) : Type 0 where
  pub files : Files
  pub agree : AgreeWith told files
  pub is : loaded ≡ class_set files name
