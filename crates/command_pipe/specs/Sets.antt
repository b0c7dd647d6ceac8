-- The sets of the classes of a pipeline, and the stages that these are loaded to.
use Rattle.std.specs.Prelude.{◌≡◌, List, [], ◌∷◌, Option, Ok, false}
use Rattle.std.specs.Prelude.{Vec}
use Rattle.std.specs.declared.alloc.Global.{Global}
use Rattle.nv_outside.specs.Files.{AgreeWith, Files}
use Rattle.command_words.specs.declared.named_class.NamedClass.{NamedClass}
use Rattle.jvm_definition.specs.Step.{loaded_program}
use Rattle.class_definition.specs.declared.class.Class.{Class}
use Rattle.class_definition.specs.Linking.{program_of}
use Rattle.jvm_machine.specs.Machine.{classes_of, has_ended, state_of}
use Rattle.jvm_machine.specs.Counting.{count_of}
use Rattle.jvm_machine.specs.declared.jvm.Jvm.{Jvm}
use Rattle.unix_calls.specs.Held.{Held}
use Rattle.unix_calls.specs.Starting.{Begins}
use Rattle.command_deeds.specs.Checks.{Behind, Check, shown}
use Rattle.command_guest.specs.Classes.{IsAcceptedSet}
use Rattle.command_pipe.specs.declared.launch.PipeLaunch.{PipeLaunch}

-- ---- the sets

-- a set that is accepted, before what others come to
abbrev pub IsWithOtherSets : (Check (List (List Class)) → Type 0) → List Class
    → Check (List (List Class)) → Type 0
IsWithOtherSets AreOthers set check = (others : Check (List (List Class))) × AreOthers others
    × (check ≡ shown (λ sets. set ∷ sets) others)

-- The sets of these classes, each of which is loaded, links and is typed; or the answer of the first
-- that is refused. Each is loaded from some files, which agree with those that are told: where none
-- are told, two may be loaded from different ones.
abbrev pub AreAccepted : Option Files → List NamedClass → Check (List (List Class)) → Type 0
AreAccepted told [] check = check ≡ Ok []
AreAccepted told (class ∷ classes) check = (files : Files) × AgreeWith told files
    × ((set : Check (List Class)) × IsAcceptedSet class files set
    × Behind set (IsWithOtherSets (AreAccepted told classes)) check)

-- ---- the stages

-- a machine on a system of its own
abbrev pub Loading : Type 0
Loading = Jvm × Held

abbrev pub set_of : Loading → List Class
set_of stage = classes_of stage.0

abbrev pub sets_of : List Loading → List (List Class)
sets_of [] = []
sets_of (stage ∷ stages) = set_of stage ∷ sets_of stages

-- what a stage, or several, were loaded from
abbrev pub set_in : Check Loading → Check (List Class)
set_in check = shown set_of check

abbrev pub sets_in : Check (Vec Loading Global) → Check (List (List Class))
sets_in check = shown (λ (stages : Vec Loading Global). sets_of stages.items) check

-- The stage of a class before its first instruction: its system has no files, and the name as the one
-- argument.
pub record IsStageOf (launch : PipeLaunch) (class : NamedClass) (stage : Loading) : Type 0 where
  pub state : state_of stage.0 ≡ loaded_program (program_of (set_of stage)) launch.words
  pub going : has_ended stage.0 ≡ false
  pub none : count_of stage.0 ≡ 0
  pub begins : Begins stage.1 launch.disk launch.moment [] (class.name ∷ [])

-- the stages of these classes, in order
abbrev pub AreStagesOf : PipeLaunch → List NamedClass → List Loading → Type 0
AreStagesOf launch [] [] = Unit {0}
AreStagesOf launch [] (stage ∷ stages) = ⊥
AreStagesOf launch (class ∷ classes) [] = ⊥
AreStagesOf launch (class ∷ classes) (stage ∷ stages) = IsStageOf launch class stage
    × AreStagesOf launch classes stages
