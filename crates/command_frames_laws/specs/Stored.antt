-- What `check` comes to with the files that `frames` stored.
use Rattle.std.specs.Prelude.{◌≡◌, ℕ, List, [], ◌∷◌, All, Some, Ok}
use Rattle.std.specs.List.{AllZip}
use Rattle.nv_outside.specs.Files.{Files, SetsFile}
use Rattle.class_definition.specs.declared.class.Class.{Class}
use Rattle.class_sets.specs.declared.named_set.NamedSet.{NamedSet}
use Rattle.class_sets.specs.declared.named_set.NamedSet.TheVariants.{NoFile, Faulty, Classes}
use Rattle.command_frames_laws.specs.StoredSets.{GetsNone, IsOwnName}
use Rattle.command_words.specs.declared.named_class.NamedClass.{NamedClass}
use Rattle.command_deeds.specs.Checks.{Check}
use Rattle.command_deeds.specs.Deeds.{Deed, stores}
use Rattle.command_frames.specs.Check.{IsCheckedFrom}

-- the files that deeds leave: each that is stored is set, in this order, and no others change
abbrev pub Leave : Files → List Deed → Files → Type 0
Leave before [] after = (name : List ℕ) → after name ≡ before name
Leave before (stores name bytes ∷ deeds) after =
    (between : Files) × SetsFile (Some before) (Some between) name bytes
    × Leave between deeds after
Leave before (deed ∷ deeds) after = Leave before deeds after

-- files have what a deed stores
abbrev pub IsStoredIn : Files → Deed → Type 0
IsStoredIn files (stores name bytes) = files name ≡ Some bytes
IsStoredIn files _ = Unit {0}

-- Files later on have what deeds stored, and no class has a file that had none before.
pub record HaveStored (before : Files) (deeds : List Deed) (later : Files) : Type 0 where
  pub stored : All (IsStoredIn later) deeds
  pub others : (name : List ℕ) → GetsNone before later name

-- each class of a set was loaded by its own name
abbrev pub HasOwnNames : NamedSet → Type 0
HasOwnNames NoFile = Unit {0}
HasOwnNames (Faulty number fault) = Unit {0}
HasOwnNames (Classes m) = AllZip IsOwnName m.names m.classes

-- the set of a class passes, and there is no other result
pub record Passes (class : NamedClass) (files : Files) : Type 0 where
  pub classes : List Class
  pub passed : IsCheckedFrom class files (Ok classes)
  pub only : (check : Check (List Class)) → IsCheckedFrom class files check → check ≡ Ok classes
