-- What `frames` is to do: a set of classes is loaded, linked and verified, and stored with tables of frames.
use Rattle.std.specs.Prelude.{◌≡◌, ℕ, ◌≤◌, List, [], ◌∷◌, ◌++◌, length, codes, string_bytes, map, All, Some, IfErr, IfOk, Ok, Err, Vec}
use Rattle.std.specs.List.{AllZip}
use Rattle.std.specs.declared.alloc.Global.{Global}
use Rattle.nv_outside.specs.Files.{AgreeWith, Files}
use Rattle.class_definition.specs.declared.class.Class.{Class}
use Rattle.class_definition.specs.declared.framed_class.FramedClass.{FramedClass}
use Rattle.class_definition.specs.FramedClassFile.{SpellsFramed}
use Rattle.frame_maps.specs.declared.frame_error.FrameError.{FrameError}
use Rattle.class_sets.specs.ClassSets.{file_of}
use Rattle.class_sets.specs.declared.loaded.Loaded.{Loaded}
use Rattle.class_sets.specs.NamedSets.{named_set}
use Rattle.class_sets.specs.Plain.{loaded_of, loaded_names}
use Rattle.class_sets.specs.declared.named_set.NamedSet.{NamedSet}
use Rattle.class_sets.specs.declared.version.Version.TheVariants.{V48}
use Rattle.stackmap_maker.specs.Refusals.{AreWithTables, IsFramesRefusal}
use Rattle.stackmap_maker.specs.Sizes.{file_size, most}
use Rattle.command_words.specs.declared.named_class.NamedClass.{NamedClass}
use Rattle.command_deeds.specs.declared.done.Done.TheVariants.{Good}
use Rattle.command_deeds.specs.Checks.{Behind, Check, after_check, shown}
use Rattle.command_deeds.specs.Deeds.{Deed, stores, prints}
use Rattle.command_deeds.specs.Ends.{Due, answers, says}
use Rattle.command_deeds.specs.Line.{number_line}
use Rattle.command_deeds.specs.World.{World}
use Rattle.command_guest.specs.Classes.{IsAcceptedLoaded, IsTypeChecked, link_checked, set_loaded, set_named}
use Rattle.command_frames.specs.Told.{IsTold}
use Rattle.command_frames.specs.declared.stored_class.StoredClass.{StoredClass}

-- ---- tables

-- verified classes get tables of frames, or why they get none: a pool has too few slots, or a file is too large
abbrev pub IsFramedTo : List Class → Check (List FramedClass) → Type 0
IsFramedTo classes (Ok framed) =
    AreWithTables classes framed × All (λ f. file_size f ≤ most) framed
IsFramedTo classes (Err answer) = (error : FrameError) × IsFramesRefusal classes error
    × IsTold error answer

abbrev pub framed_of : Check (Vec FramedClass Global) → Check (List FramedClass)
framed_of check = shown (λ (v : Vec FramedClass Global). v.items) check

-- ---- from classes that link to such with tables

-- all methods are typed, and then the classes get tables
pub record AreVerifiedTo (classes : List Class) (check : Check (List FramedClass)) : Type 0 where
  pub typed : Check (List Class)
  pub typed_is : IsTypeChecked classes typed
  pub framed : Behind typed IsFramedTo check

-- the same behind a check
abbrev pub IsFramedBehind : Check (List Class) → Check (List FramedClass) → Type 0
IsFramedBehind linked check = Behind linked AreVerifiedTo check

-- the same of what loading a set came to
abbrev pub IsFramedLoaded : NamedClass → Loaded → Check (List FramedClass) → Type 0
IsFramedLoaded class set check = IsFramedBehind (after_check (set_loaded class set) link_checked) check

-- ---- files

-- files are stored under the names of their classes
abbrev pub all_stored : List (List ℕ) → List (List ℕ) → List Deed
all_stored (name ∷ names) (bytes ∷ files) = stores (file_of name) bytes ∷ all_stored names files
all_stored _ _ = []

-- classes are stored under their names
pub record AreWritten (names : List (List ℕ)) (framed : List FramedClass) (deeds : List Deed)
    : Type 0 where
  pub files : List (List ℕ)
  pub spelled : AllZip SpellsFramed files framed
  pub are : deeds ≡ all_stored names files

abbrev pub AreWrittenTo : List (List ℕ) → List FramedClass → Check (List Deed) → Type 0
AreWrittenTo names framed (Ok deeds) = AreWritten names framed deeds
AreWrittenTo names framed (Err answer) = ⊥

abbrev pub deed_of : StoredClass → Deed
deed_of class = stores (string_bytes class.name) class.bytes.items

abbrev pub deeds_of : Check (Vec StoredClass Global) → Check (List Deed)
deeds_of check = shown (λ (v : Vec StoredClass Global). map deed_of v.items) check

-- ---- from a set to files

pub record AreFilesOfSet (class : NamedClass) (set : NamedSet) (check : Check (List Deed)) : Type 0
  where
    pub classes : Check (List Class)
    pub accepted : IsAcceptedLoaded class (loaded_of set) classes
    pub framed : Check (List FramedClass)
    pub framed_is : Behind classes IsFramedTo framed
    pub written : Behind framed (AreWrittenTo (loaded_names set)) check

abbrev pub AreFilesOf : NamedClass → Files → Check (List Deed) → Type 0
AreFilesOf class files check = AreFilesOfSet class (named_set V48 files class.name) check

-- ---- the command

-- classes are stored, and then counted
abbrev pub stored_and_counted : List Deed → Due
stored_and_counted deeds = record {
  deeds = deeds
      ++ prints (number_line (codes "classes ") (length deeds)) ∷ [];
  answer = Some (says Good);
}

-- What `frames` is to do with the set of a class.
pub record IsDueOfFrames (class : NamedClass) (w : World) (due : Due) : Type 0 where
  -- the files: those of the shelf, where it tells them
  pub files : Files
  pub agree : AgreeWith w.shelf.told files
  -- the set of the class is loaded
  pub set : Check (List Class)
  pub set_is : set ≡ set_named files class
  -- it links
  pub linked : Check (List Class)
  pub linked_is : linked ≡ after_check set link_checked
  -- all its methods are typed
  pub classes : Check (List Class)
  pub classes_are : Behind linked IsTypeChecked classes
  -- there is room for tables of frames
  pub framed : Check (List FramedClass)
  pub framed_is : Behind classes IsFramedTo framed
  -- the files of the classes, under the names by which these were loaded
  pub deeds : Check (List Deed)
  pub deeds_are : Behind framed (AreWrittenTo (loaded_names (named_set V48 files class.name))) deeds
  -- the answer where one of these refused
  pub refused : IfErr deeds (λ answer. due ≡ answers answer)
  -- where all passed, the files are stored and counted
  pub done : IfOk deeds (λ stored. due ≡ stored_and_counted stored)
