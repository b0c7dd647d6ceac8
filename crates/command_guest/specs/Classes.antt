-- What the commands on classes are to do: a set is loaded, linked and verified, and then worked on.
use Rattle.std.specs.Prelude.{◌≡◌, ℕ, List, [], ◌∷◌, length, codes, decimal, Some, IfErr, IfOk, Ok, Err}
use Rattle.nv_outside.specs.Files.{AgreeWith, Files}
use Rattle.class_definition.specs.declared.verify_fault.VerifyFault.{VerifyFault}
use Rattle.command_words.specs.declared.named_class.NamedClass.{NamedClass}
use Rattle.jvm_definition.specs.Step.{loaded_program, loaded_turn}
use Rattle.jvm_definition.specs.Typing.{AllTyped}
use Rattle.class_definition.specs.declared.class.Class.{Class}
use Rattle.class_definition.specs.LinkFault.{link_fault}
use Rattle.class_definition.specs.Linking.{linked_methods, program_of}
use Rattle.class_sets.specs.ClassSets.{class_set, file_of}
use Rattle.class_sets.specs.declared.loaded.Loaded.{Loaded}
use Rattle.class_sets.specs.declared.loaded.Loaded.TheVariants.{NoFile, Faulty, Classes}
use Rattle.type_verifier.specs.Refusal.{IsAtFault}
use Rattle.type_verifier.specs.declared.verified.Verified.{Verified}
use Rattle.command_deeds.specs.Checks.{Behind, Check, after_check, shown, unless_fault}
use Rattle.command_deeds.specs.Deeds.{prints}
use Rattle.command_deeds.specs.Ends.{CommandAnswer, Due, answers, lacks, says}
use Rattle.command_deeds.specs.Line.{pieces_joined}
use Rattle.command_deeds.specs.World.{World}
use Rattle.command_deeds.specs.declared.done.Done.{Done}
use Rattle.command_deeds.specs.declared.done.Done.TheVariants.{Good, ClassRefused, LinkRefused, VerifyRefused}
use Rattle.command_deeds.specs.Runs.{GivenFile, Plan, found_for, session_run}

-- ---- the checks of a set

-- the classes of a set whose first class the words name, or why it was not loaded
abbrev pub set_loaded : NamedClass → Loaded → Check (List Class)
set_loaded class NoFile = Err (lacks class.word (file_of class.name))
set_loaded class (Faulty number fault) = Err (says (ClassRefused number fault.kind fault.at))
set_loaded class (Classes classes) = Ok classes

abbrev pub set_named : Files → NamedClass → Check (List Class)
set_named files class = set_loaded class (class_set files class.name)

-- classes link, or this is their first fault
abbrev pub link_checked : List Class → Check (List Class)
link_checked classes = unless_fault (link_fault classes) LinkRefused classes

-- all their methods are typed, or this is the first that is not
abbrev pub IsTypeChecked : List Class → Check (List Class) → Type 0
IsTypeChecked classes (Ok typed) = (typed ≡ classes) × AllTyped (program_of classes)
IsTypeChecked classes (Err answer) = (fault : VerifyFault) × IsAtFault classes fault
    × (answer ≡ says (VerifyRefused fault))

-- ---- accepting classes

-- classes link and are typed
abbrev pub IsAccepted : List Class → Check (List Class) → Type 0
IsAccepted classes check = Behind (link_checked classes) IsTypeChecked check

-- the same of what loading a set came to, and of the set of a name
abbrev pub IsAcceptedLoaded : NamedClass → Loaded → Check (List Class) → Type 0
IsAcceptedLoaded class set check =
    Behind (after_check (set_loaded class set) link_checked) IsTypeChecked check

abbrev pub IsAcceptedSet : NamedClass → Files → Check (List Class) → Type 0
IsAcceptedSet class files check = IsAcceptedLoaded class (class_set files class.name) check

-- the classes of what was verified
abbrev pub classes_of : Check Verified → Check (List Class)
classes_of check = shown (λ (verified : Verified). verified.linked.classes) check

-- ---- `verify`

-- how many classes there are, and how many methods all of them have
abbrev pub counts_line : List Class → List ℕ
counts_line classes =
    pieces_joined (codes "classes " ∷ decimal (length classes) ∷ codes " methods "
    ∷ decimal (length (linked_methods classes)) ∷ codes "\n" ∷ [])

abbrev pub classes_counted : List Class → Due
classes_counted classes = record { deeds = prints (counts_line classes) ∷ []; answer = Some (says Good) }

-- What `verify` is to do with the set of a class.
pub record IsDueOfVerify (class : NamedClass) (w : World) (due : Due) : Type 0 where
  -- the files: those of the shelf, where it tells them
  pub files : Files
  pub agree : AgreeWith w.shelf.told files
  -- the set of the class is loaded
  pub set : Check (List Class)
  pub set_is : set ≡ set_named files class
  -- it links
  pub linked : Check (List Class)
  pub linked_is : linked ≡ after_check set link_checked
  -- all its methods are typed
  pub classes : Check (List Class)
  pub classes_are : Behind linked IsTypeChecked classes
  -- the answer where one of these refused
  pub refused : IfErr classes (λ answer. due ≡ answers answer)
  -- where all passed, classes and methods are counted
  pub done : IfOk classes (λ accepted. due ≡ classes_counted accepted)

-- ---- `run`

-- What `run` is to do with the set of a class, in a region of so many words.
pub record IsDueOfRun (class : NamedClass) (words : ℕ) (plan : Plan) (w : World) (due : Due)
    : Type 0 where
  -- the files as the set is loaded: those of the shelf, where it tells them
  pub files : Files
  pub agree : AgreeWith w.shelf.told files
  -- and as the files of --with are
  pub with_files : Files
  pub with_agree : AgreeWith w.shelf.told with_files
  -- the set of the class is loaded
  pub set : Check (List Class)
  pub set_is : set ≡ set_named files class
  -- it links
  pub linked : Check (List Class)
  pub linked_is : linked ≡ after_check set link_checked
  -- all its methods are typed
  pub classes : Check (List Class)
  pub classes_are : Behind linked IsTypeChecked classes
  -- the arguments fit, and the files of --with are there and fit
  pub found : Check (List GivenFile)
  pub found_is : found ≡ after_check classes (λ accepted. found_for plan with_files)
  -- pieces of input, of which one comes before each call where it does not tell what it has left
  pub pieces : List (List ℕ)
  -- the answer where one of these refused
  pub refused : IfErr found (λ answer. due ≡ answers answer)
  -- where all passed, the run of the classes from their start, for the steps of the session
  pub done : IfOk classes (λ accepted. IfOk found (λ given.
      due ≡ session_run loaded_turn (loaded_program (program_of accepted) words) plan given
      w.input.told pieces))
