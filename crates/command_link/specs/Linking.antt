-- What `link` is to do.
use Rattle.std.specs.Prelude.{◌≡◌, ℕ, List, [], ◌∷◌, Some, IfErr, IfOk, Ok, Err, codes, length}
use Rattle.std.specs.List.{position}
use Rattle.nv_values.specs.Names.{Text}
use Rattle.command_words.specs.declared.named.Named.{Named}
use Rattle.elf_definition.specs.declared.obj_fault.ObjFault.{ObjFault}
use Rattle.elf_definition.specs.declared.obj_fault.TheConstants.ObjFault.{OBJECT_TOO_LARGE}
use Rattle.obj_reader.specs.Files.{is_long_file}
use Rattle.obj_linker.specs.Link.{IsLinked, objects_fault}
use Rattle.command_deeds.specs.declared.done.Done.TheVariants.{Good, ObjRefused}
use Rattle.command_deeds.specs.Checks.{Behind, Check, after_check, unless_fault}
use Rattle.command_deeds.specs.Deeds.{stores, prints}
use Rattle.command_deeds.specs.Ends.{Due, answers, says}
use Rattle.command_deeds.specs.Line.{number_line}
use Rattle.command_deeds.specs.World.{World}
use Rattle.command_link.specs.Loading.{AreLoaded}

-- ---- linking

-- the fault of an object, that it is too large
abbrev pub object_too_large : ℕ → ObjFault
object_too_large object = record { object = object; kind = OBJECT_TOO_LARGE; at = 0 }

-- no object is too large, or this is the first that is
abbrev pub short_objects : List (List ℕ) → Check (List (List ℕ))
short_objects objects =
    unless_fault (position is_long_file objects) (λ object. ObjRefused (object_too_large object)) objects

-- objects pass the checks of linking, or this is the first that they fail
abbrev pub sound_objects : Text → List (List ℕ) → Check (List (List ℕ))
sound_objects entry objects = unless_fault (objects_fault objects entry) ObjRefused objects

abbrev pub objects_checked : Text → List (List ℕ) → Check (List (List ℕ))
objects_checked entry objects = after_check (short_objects objects) (sound_objects entry)

-- sound objects are linked
abbrev pub IsLinkedTo : Text → List (List ℕ) → Check (List ℕ) → Type 0
IsLinkedTo entry objects (Ok program) = IsLinked objects entry program
IsLinkedTo entry objects (Err answer) = ⊥

-- the program of objects that are neither too large nor at fault
abbrev pub IsProgramOf : Text → List (List ℕ) → Check (List ℕ) → Type 0
IsProgramOf entry objects check = Behind (objects_checked entry objects) (IsLinkedTo entry) check

-- ---- the command

-- a program is stored, and its length is told
abbrev pub linked_and_told : Text → List ℕ → Due
linked_and_told output program = record {
  deeds = stores output program
      ∷ prints (number_line (codes "bytes ") (length program)) ∷ [];
  answer = Some (says Good);
}

-- What `link` is to do with the objects of files that the words name, given the name of the program's
-- file and the symbol at which it begins.
pub record IsDueOfLink (output : Text) (inputs : List Named) (entry : Text) (w : World) (due : Due)
    : Type 0 where
  -- the objects' files are there: those of the shelf, where it tells them
  pub objects : Check (List (List ℕ))
  pub are_loaded : AreLoaded w.shelf.told inputs objects
  -- none is too large, and they pass the checks of linking
  pub sound : Check (List (List ℕ))
  pub sound_is : sound ≡ after_check objects (objects_checked entry)
  -- their program
  pub program : Check (List ℕ)
  pub program_is : Behind sound (IsLinkedTo entry) program
  -- the answer where one of these refused
  pub refused : IfErr program (λ answer. due ≡ answers answer)
  -- where all passed, the program is stored and its length told
  pub done : IfOk program (λ bytes. due ≡ linked_and_told output bytes)
