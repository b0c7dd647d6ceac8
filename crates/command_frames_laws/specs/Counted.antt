-- What `frames` and `check` are to do with a set, one behind the other.
use Rattle.std.specs.Prelude.{◌≡◌, ◌⊎◌, List, Some, Ok}
use Rattle.nv_outside.specs.Files.{Files}
use Rattle.class_definition.specs.declared.class.Class.{Class}
use Rattle.class_sets.specs.ClassSets.{class_set}
use Rattle.class_sets.specs.declared.loaded.Loaded.TheVariants.{Classes}
use Rattle.command_words.specs.declared.named_class.NamedClass.{NamedClass}
use Rattle.command_deeds.specs.Deeds.{Deed}
use Rattle.command_deeds.specs.Ends.{Due}
use Rattle.command_deeds.specs.World.{World}
use Rattle.command_guest.specs.Classes.{classes_counted}
use Rattle.command_frames.specs.Check.{IsDueOfCheck}
use Rattle.command_frames.specs.Frames.{AreFilesOf, stored_and_counted}
use Rattle.command_frames_laws.specs.Stored.{HaveStored, Leave}

-- The set of a class is stored and counted.
pub record StoresSet (class : NamedClass) (files : Files) (due : Due) : Type 0 where
  -- the set, as it was loaded
  pub classes : List Class
  pub loaded : class_set files class.name ≡ Classes classes
  -- the files of its classes with tables of frames
  pub deeds : List Deed
  pub are : AreFilesOf class files (Ok deeds)
  pub is : due ≡ stored_and_counted deeds

-- These files are what deeds left, or later ones that have what was stored, and no class that had no
-- file before.
abbrev pub StandIn : Files → List Deed → Files → Type 0
StandIn before deeds later = Leave before deeds later ⊎ HaveStored before deeds later

-- Over these files `check` of a class is to count as many classes and methods as these are, and to
-- answer that all is good.
abbrev pub IsCounted : NamedClass → Files → List Class → Type 0
IsCounted class files classes = (w : World) (due : Due) → w.shelf.told ≡ Some files
    → IsDueOfCheck class w due → due ≡ classes_counted classes
