-- The stages of a pipeline before their first instruction, and the net of them.
use Rattle.std.proofs.Common.{◌≡◌, ◌∙◌, ◌-◌, ◌^◌, ℕ, zero, suc, List, [], ◌∷◌, ◌++◌, length, map, get_or, slice_get, Option, Some, refl, sym, ap, subst, append_assoc}
use Rattle.std.proofs.lemmas.List.{append-nil}
use Rattle.std.proofs.lemmas.Option.{same_Some}
use Rattle.unix_calls.specs.Held.{Held, limited, system_of}
use Rattle.unix_calls.specs.Starting.{held_at_start}
use Rattle.unix_pipe_laws.specs.Pipelines.{Pipeline}
use Rattle.unix_pipe_laws.specs.Alone.{IsFreshPipeline}
use Rattle.jvm_definition.specs.Step.{Loaded, loaded_program}
use Rattle.class_definition.specs.declared.class.Class.{Class}
use Rattle.class_definition.specs.Linking.{program_of}
use Rattle.jvm_machine.specs.Machine.{state_of, words_of}
use Rattle.jvm_machine.specs.declared.jvm.Jvm.{Jvm}
use Rattle.pipe_net.specs.Showing.{AreFresh, IsFreshStage, IsPipelineOf}
use Rattle.command_words.specs.declared.named_class.NamedClass.{NamedClass}
use Rattle.command_pipe.specs.Pipe.{pipeline_for}
use Rattle.command_pipe.specs.Sets.{AreStagesOf, IsStageOf, Loading, set_of, sets_of}
use Rattle.command_pipe.specs.declared.launch.PipeLaunch.{PipeLaunch}

-- ---- stage by stage

-- Of the classes these are left, and the others have these stages.
pub record HasStages (launch : PipeLaunch) (classes rest : List NamedClass) (stages : List Loading) : Type 0 where
  pub all : (others : List Loading) → AreStagesOf launch rest others → AreStagesOf launch classes (stages ++ others)

pub no_stages : (launch : PipeLaunch) (classes : List NamedClass) → HasStages launch classes classes []
no_stages launch classes = record { all = λ others are. are }

pub one_stage_more : (launch : PipeLaunch) (classes rest : List NamedClass) (class : NamedClass) (stages : List Loading) (stage : Loading)
    → HasStages launch classes (class ∷ rest) stages → IsStageOf launch class stage → HasStages launch classes rest (stages ++ stage ∷ [])
one_stage_more launch classes rest class stages stage h is = record {
  all = λ others are. subst (AreStagesOf launch classes) (sym (append_assoc stages (stage ∷ []) others)) (h.all (stage ∷ others) (is, are));
}

pub all_stages : (launch : PipeLaunch) (classes : List NamedClass) (stages : List Loading) → HasStages launch classes [] stages
    → AreStagesOf launch classes stages
all_stages launch classes stages h = subst (AreStagesOf launch classes) (append-nil stages) (h.all [] tt)

pub sets-more : (stages : List Loading) (stage : Loading) → sets_of (stages ++ stage ∷ []) ≡ sets_of stages ++ set_of stage ∷ []
sets-more [] stage = refl
sets-more (s ∷ stages) stage = ap (λ sets. set_of s ∷ sets) (sets-more stages stage)

pub as-many : (launch : PipeLaunch) (classes : List NamedClass) (stages : List Loading) → AreStagesOf launch classes stages
    → length stages ≡ length classes
as-many launch [] [] are = refl
as-many launch [] (stage ∷ stages) are = absurd are
as-many launch (class ∷ classes) [] are = absurd are
as-many launch (class ∷ classes) (stage ∷ stages) are = ap (λ n. suc n) (as-many launch classes stages are.1)

-- ---- at a number

record StageAt (launch : PipeLaunch) (classes : List NamedClass) (stages : List Loading) (i : ℕ) (stage : Loading) : Type 0 where
  class : NamedClass
  named : get_or (map (λ (c : NamedClass). c.name) classes) i [] ≡ class.name
  set : get_or (sets_of stages) i [] ≡ set_of stage
  is : IsStageOf launch class stage

stage-at : (launch : PipeLaunch) (classes : List NamedClass) (stages : List Loading) → AreStagesOf launch classes stages → (i : ℕ) (stage : Loading)
    → slice_get stages i ≡ Some stage → StageAt launch classes stages i stage
stage-at launch [] [] are i stage e = absurd (cc)
stage-at launch [] (s ∷ stages) are i stage e = absurd are
stage-at launch (c ∷ classes) [] are i stage e = absurd are
stage-at launch (c ∷ classes) (s ∷ stages) are zero stage e =
    let same : s ≡ stage = same_Some s stage e in
    record { class = c; named = refl; set = ap set_of same; is = subst (IsStageOf launch c) same are.0 }
stage-at launch (c ∷ classes) (s ∷ stages) are (suc i) stage e =
    let later = stage-at launch classes stages are.1 i stage e in
    record { class = later.class; named = later.named; set = later.set; is = later.is }

-- ---- all of them

module _ (launch : PipeLaunch) (classes : List NamedClass) (stages : List Loading) (are : AreStagesOf launch classes stages) where
  at : (i : ℕ) (jvm : Jvm) (unix : Held) → slice_get stages i ≡ Some (jvm, unix) → StageAt launch classes stages i (jvm, unix)
  at i jvm unix e = stage-at launch classes stages are i (jvm, unix) e

  words-are : (i : ℕ) (jvm : Jvm) (unix : Held) → slice_get stages i ≡ Some (jvm, unix) → words_of jvm ≡ launch.words
  words-are i jvm unix e = ap (λ (l : Loaded). l.words) (at i jvm unix e).is.state

  fresh-stage : (i : ℕ) (jvm : Jvm) (unix : Held) → slice_get stages i ≡ Some (jvm, unix) → IsFreshStage jvm unix
  fresh-stage i jvm unix e =
      let here = at i jvm unix e in
      record {
        state = here.is.state ∙ ap (loaded_program (program_of (set_of (jvm, unix)))) (sym (words-are i jvm unix e));
        going = here.is.going;
        none = here.is.none;
        fresh = record {
          most = 2 ^ 32 - 1;
          blocks = launch.disk;
          moment = launch.moment;
          files = [];
          args = here.class.name ∷ [];
          begins = here.is.begins;
        };
      }

  pub are-fresh : AreFresh stages
  are-fresh = fresh-stage

  module _ (input : Option (List ℕ)) where
    abbrev p : Pipeline Loaded
    p = pipeline_for launch classes (sets_of stages) input

    machine-is : (i : ℕ) (jvm : Jvm) (unix : Held) → slice_get stages i ≡ Some (jvm, unix) → p.machines i ≡ state_of jvm
    machine-is i jvm unix e =
        let here = at i jvm unix e in
        ap (λ (set : List Class). loaded_program (program_of set) launch.words) here.set ∙ sym here.is.state

    system-is : (i : ℕ) (jvm : Jvm) (unix : Held) → slice_get stages i ≡ Some (jvm, unix)
        → p.systems i ≡ system_of (limited unix launch.size) [] [] []
    system-is i jvm unix e =
        let here = at i jvm unix e in
        ap (λ (name : List ℕ). system_of (limited (held_at_start launch.disk launch.moment [] (name ∷ [])) launch.size) [] [] []) here.named
        ∙ ap (λ (h : Held). system_of (limited h launch.size) [] [] []) (sym here.is.begins.is)

    pub is-pipeline : IsPipelineOf stages launch.size launch.steps p
    is-pipeline = record {
      turn_is = refl;
      count_is = sym (as-many launch classes stages are);
      c_is = refl;
      bound_is = refl;
      machine = machine-is;
      system = system-is;
    }

    pub is-fresh : IsFreshPipeline p
    is-fresh = record { no_output = λ i. refl; limited = λ i. refl }
