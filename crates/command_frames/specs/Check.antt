-- What `check` is to do: a set of classes of version 51.0 is loaded, linked, and checked by its tables of frames.
use Rattle.std.specs.Prelude.{◌≡◌, ℕ, List, [], ◌∷◌, IfErr, IfOk, Ok, Err}
use Rattle.nv_outside.specs.Files.{AgreeWith, Files}
use Rattle.class_definition.specs.declared.class.Class.{Class}
use Rattle.class_definition.specs.LinkFault.{link_fault}
use Rattle.jvm_link.specs.declared.linked.Linked.{Linked}
use Rattle.frame_maps.specs.Checked.{AreTyped, IsCheckRefusal}
use Rattle.frame_maps.specs.declared.frame_error.FrameError.{FrameError}
use Rattle.class_sets.specs.ClassSets.{file_of}
use Rattle.class_sets.specs.NamedSets.{named_set}
use Rattle.class_sets.specs.declared.members.Members.{Members}
use Rattle.class_sets.specs.declared.named_set.NamedSet.{NamedSet}
use Rattle.class_sets.specs.declared.named_set.NamedSet.TheVariants.{NoFile, Faulty, Classes}
use Rattle.class_sets.specs.declared.version.Version.TheVariants.{V51}
use Rattle.command_words.specs.declared.named_class.NamedClass.{NamedClass}
use Rattle.command_deeds.specs.declared.done.Done.TheVariants.{ClassRefused, LinkRefused}
use Rattle.command_deeds.specs.Checks.{Behind, Check, after_check, shown, unless_fault}
use Rattle.command_deeds.specs.Ends.{Due, answers, lacks, says}
use Rattle.command_deeds.specs.World.{World}
use Rattle.command_guest.specs.Classes.{classes_counted}
use Rattle.command_frames.specs.Told.{IsTold}

-- ---- the checks of a set

-- a set whose first class the words name, or why it was not loaded
abbrev pub members_loaded : NamedClass → NamedSet → Check Members
members_loaded class NoFile = Err (lacks class.word (file_of class.name))
members_loaded class (Faulty number fault) = Err (says (ClassRefused number fault.kind fault.at))
members_loaded class (Classes members) = Ok members

abbrev pub named_members : Files → NamedClass → Check Members
named_members files class = members_loaded class (named_set V51 files class.name)

-- its classes link, or this is their first fault
abbrev pub members_link : Members → Check Members
members_link members = unless_fault (link_fault members.classes) LinkRefused members

-- each method is typed by the frames that its table lists, or why the first one is not
abbrev pub IsFrameChecked : List Class → List (List (List ℕ)) → Check (List Class) → Type 0
IsFrameChecked classes tables (Ok checked) = (checked ≡ classes) × AreTyped classes tables
IsFrameChecked classes tables (Err answer) = (error : FrameError)
    × IsCheckRefusal classes tables error × IsTold error answer

abbrev pub IsTableChecked : Members → Check (List Class) → Type 0
IsTableChecked members check = IsFrameChecked members.classes members.tables check

-- ---- all of them

abbrev pub IsLinkChecked : Members → Check (List Class) → Type 0
IsLinkChecked members check = Behind (members_link members) IsTableChecked check

abbrev pub IsCheckedLoaded : NamedClass → NamedSet → Check (List Class) → Type 0
IsCheckedLoaded class set check =
    Behind (after_check (members_loaded class set) members_link) IsTableChecked check

abbrev pub IsCheckedFrom : NamedClass → Files → Check (List Class) → Type 0
IsCheckedFrom class files check = IsCheckedLoaded class (named_set V51 files class.name) check

-- the classes of what was linked
abbrev pub classes_of : Check Linked → Check (List Class)
classes_of check = shown (λ (linked : Linked). linked.classes) check

-- ---- the command

-- What `check` is to do with the set of a class.
pub record IsDueOfCheck (class : NamedClass) (w : World) (due : Due) : Type 0 where
  -- the files: those of the shelf, where it tells them
  pub files : Files
  pub agree : AgreeWith w.shelf.told files
  -- the set of the class is loaded, of classes of version 51.0
  pub set : Check Members
  pub set_is : set ≡ named_members files class
  -- it links
  pub linked : Check Members
  pub linked_is : linked ≡ after_check set members_link
  -- each of its methods is typed by the frames that its table lists
  pub classes : Check (List Class)
  pub classes_are : Behind linked IsTableChecked classes
  -- the answer where one of these refused
  pub refused : IfErr classes (λ answer. due ≡ answers answer)
  -- where all passed, classes and methods are counted
  pub done : IfOk classes (λ checked. due ≡ classes_counted checked)
