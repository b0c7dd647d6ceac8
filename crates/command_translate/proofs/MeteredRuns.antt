-- The run of classes with a meter over the system of a command, and what is due of it.
use Rattle.std.proofs.Common.{◌≡◌, ◌≢◌, ◌⊎◌, ◌∙◌, ◌==◌, ◌≤◌, if◌then◌else◌, ℕ, Bool, true, false, List, [], ◌∷◌, Option, Some, None, option_map, Result, Ok, Err, refl, sym, ap, ap₂, inl, inr, arith}
use Rattle.std.proofs.lemmas.Bool.Decides.{nat_tests}
use Rattle.std.proofs.lemmas.Option.{same_Some}
use Rattle.run_definition.specs.Run.{Run}
use Rattle.run_definition.specs.Turn.{End, outcome_of}
use Rattle.run_definition.specs.declared.fault.Fault.{Fault}
use Rattle.run_definition.specs.declared.outcome.Outcome.{Outcome}
use Rattle.run_definition.specs.declared.outcome.Outcome.TheVariants.{Exited, Faulted, Trapped, Waiting, Going}
use Rattle.run_simulation_laws.specs.Meter.{IsMetered}
use Rattle.mips_decode.specs.FaultKinds.{IsGuestKind}
use Rattle.mips_definition.specs.State.{State}
use Rattle.elf_definition.specs.Start.{Source, image_of}
use Rattle.unix_definition.specs.Files.{GuestFiles}
use Rattle.unix_definition.specs.System.{System}
use Rattle.unix_definition.specs.Unix.{reply}
use Rattle.unix_calls.specs.Arriving.{Arriving, arriving, reply_arriving, without_pieces}
use Rattle.unix_calls.specs.Held.{Held}
use Rattle.unix_calls.specs.Stages.{stage_of}
use Rattle.meter.specs.Guards.{spent_kind}
use Rattle.emit_metered_laws.specs.Metering.{spent}
use Rattle.jvm_definition.specs.Step.{loaded_program, loaded_turn}
use Rattle.class_definition.specs.Linking.{program_of}
use Rattle.translate_program.specs.Files.{need}
use Rattle.translate_program.specs.declared.named_file.NamedFile.{NamedFile}
use Rattle.nv_translate.proofs.EndedRuns.{system_fits}
use Rattle.nv_translate.specs.Metered.{TranslatedMetered}
use Rattle.nv_translate.specs.Made.{AreMade}
use Rattle.command_deeds.proofs.PlayLemmas.{IsDueOfSteps}
use Rattle.command_deeds.specs.Deeds.{plays}
use Rattle.command_deeds.specs.Ends.{CommandAnswer, Due, Works, WorksOn, is_stop, says}
use Rattle.command_deeds.specs.Runs.{GivenFile, Plan, answer_of, kept, of_runs}
use Rattle.command_deeds.specs.World.{World}
use Rattle.command_deeds.specs.declared.done.Done.TheVariants as done
use Rattle.command_deeds.specs.declared.stop.Stop.{Stop}
use Rattle.command_translate.proofs.MeterLemmas.{going_or_not, metered_over}
use Rattle.command_translate.proofs.RunLemmas.{arriving_fits, program_faults_so, program_traps_not, system, trap_told}
use Rattle.command_translate.specs.Held.{IsDueOfHeldMetered, IsDueOfHeldRun}
use Rattle.command_translate.specs.Metered.{IsDueOfMetered, allowed_by_meter, by_meter, ended_by_meter, metered_run, said_by_meter, told_by_meter}
use Rattle.command_translate.specs.Stores.{classes_for, program_for, IsDueBehind, after_stores}

-- ---- answers

-- the answer of a run's end, by the meter
abbrev told : Outcome → Option CommandAnswer
told o = option_map said_by_meter (option_map says (answer_of o))

not_spent : (kind : ℕ) → IsGuestKind kind → (kind == spent_kind) ≡ false
not_spent kind so = let most : kind ≤ 11 = so.1 in grind (arith, nat_tests)

-- that of a program's own end stays as it is
own_answer : (o : Outcome) → ((f : Fault) → o ≡ Faulted f → IsGuestKind f.kind) → told o ≡ option_map says (answer_of o)
own_answer (Exited status) kinds = refl
own_answer (Faulted f) kinds =
    ap (λ (b : Bool). Some (says (if b then done.Spent else done.Faulted f))) (not_spent f.kind (kinds f refl))
own_answer (Trapped k) kinds = refl
own_answer Waiting kinds = refl
own_answer Going kinds = refl

-- that of a spent meter is that of a program that goes on
spent_answer : (s : State) → told (outcome_of (spent s)) ≡ option_map says (answer_of Going)
spent_answer s = refl

same_answer : {T : Type 0} (run : Run State System) (classes : Run T System) → ((f : Fault) → run.outcome ≡ Faulted f → IsGuestKind f.kind)
    → IsMetered spent run classes → told classes.outcome ≡ option_map says (answer_of run.outcome)
same_answer run classes kinds metered = by (going_or_not run.outcome)
  where
    by : (run.outcome ≡ Going) ⊎ (run.outcome ≢ Going) → told classes.outcome ≡ option_map says (answer_of run.outcome)
    by (inl going) =
        ap told (metered.goes going) ∙ spent_answer run.last ∙ ap (λ o. option_map says (answer_of o)) (sym going)
    by (inr over) = ap told (metered.over over) ∙ own_answer run.outcome kinds

-- no answer of a run is one of a stop
spent_or_not : (b : Bool) (f : Fault) → is_stop (if b then done.Spent else done.Faulted f) ≡ false
spent_or_not true f = refl
spent_or_not false f = refl

said_so : (first answer : CommandAnswer) → is_stop (by_meter first.done) ≡ false → Some first ≡ Some answer → is_stop (by_meter answer.done) ≡ false
said_so first answer none is = ap (λ (a : CommandAnswer). is_stop (by_meter a.done)) (sym (same_Some first answer is)) ∙ none

no_stop : (o : Outcome) (answer : CommandAnswer) → option_map says (answer_of o) ≡ Some answer → is_stop (by_meter answer.done) ≡ false
no_stop (Exited status) answer is = said_so (says (done.Exited status)) answer refl is
no_stop (Faulted f) answer is = said_so (says (done.Faulted f)) answer (spent_or_not (f.kind == spent_kind) f) is
no_stop (Trapped k) answer is = said_so (says (done.Trapped k)) answer refl is
no_stop Waiting answer is = cc
no_stop Going answer is = said_so (says done.Spent) answer refl is

-- ---- the work, with this answer

told_works : (later : Due) (w v : World) (end : Result CommandAnswer Stop)
    → ((answer : CommandAnswer) → later.answer ≡ Some answer → is_stop (by_meter answer.done) ≡ false) → Works later w v end
    → Works (told_by_meter later) w v (ended_by_meter end)
told_works later w v (Ok answer) none p = (ap (option_map said_by_meter) p.0, none answer p.0, p.2)
told_works later w v (Err stop) none p = p

pub metered_works : (plan : Plan) (method_bytes turns : ℕ) (image : Source) (unix : Held) (files : List NamedFile) (w v : World) (end : Result CommandAnswer Stop)
    → (t : TranslatedMetered image plan.name turns files) → AreMade (Some turns) image plan.name method_bytes files
    → WorksOn (λ x. IsDueBehind files (IsDueOfHeldRun (allowed_by_meter turns image) (need (image_of image).mapped) unix plan.session.keep.names t.runs.classes
    x.input.told)) w v end
    → WorksOn (λ x. IsDueOfHeldMetered plan method_bytes turns image unix x.input.told) w v (ended_by_meter end)
metered_works plan method_bytes turns image unix files w v end t made q =
    (told_by_meter q.0, (files, t, made, q.0, q.1, refl), told_works q.0 w v end none q.2)
  where
    none : (answer : CommandAnswer) → q.0.answer ≡ Some answer → is_stop (by_meter answer.done) ≡ false
    none answer is =
        no_stop _ answer (sym (ap (λ (d : Due). d.answer) q.1.1.1) ∙ sym (ap (λ (d : Due). d.answer) q.1.2) ∙ is)

-- ---- the run beside the program's

without : {S T : Type 0} (end : S → End) (run : Run S Arriving) (other : Run T Arriving) → IsMetered end run other
    → IsMetered end (without_pieces run) (without_pieces other)
without end run other m = record { questions = m.questions; system = ap (λ k. k.system) m.system; goes = m.goes; over = m.over }

module _ (plan : Plan) (turns : ℕ) (source : Source) (files : List NamedFile) (t : TranslatedMetered source plan.name turns files)
    (found : List GivenFile) (pieces : List (List ℕ)) where
  abbrev bound : ℕ
  bound = allowed_by_meter turns source

  abbrev room : ℕ
  room = need (image_of source).mapped

  as_program : (input : Option (List ℕ)) → IsMetered spent (program_for plan source found input pieces turns)
      (classes_for plan source found t.runs.classes input pieces bound)
  as_program (Some input) =
      metered_over reply system_fits source turns (program_of t.runs.classes) room bound t.runs.stops (omega arith) (omega arith)
      (system plan source found pieces input)
  as_program None =
      without spent _ _ (metered_over reply_arriving arriving_fits source turns (program_of t.runs.classes) room bound t.runs.stops (omega arith) (omega arith)
      (arriving (system plan source found pieces []) pieces))

  -- the run and its answer, by the meter
  is_run : (input : Option (List ℕ))
      → told_by_meter (of_runs loaded_turn bound (classes_for plan source found t.runs.classes input pieces) plan.session.keep.names)
      ≡ metered_run plan turns source found t.runs.classes input pieces
  is_run input =
      let classes = classes_for plan source found t.runs.classes input pieces in
      let program = program_for plan source found input pieces turns in
      let metered = as_program input in
      ap₂ (λ (files : GuestFiles) (answer : Option CommandAnswer). record {
        deeds = plays bound (λ n. stage_of loaded_turn (classes n)) ∷ kept files plan.session.keep.names;
        answer = answer;
      }) (ap (λ (s : System). s.files) metered.system) (same_answer program (classes bound) (program_faults_so plan source found pieces input turns) metered)

  no_trap : (input : Option (List ℕ)) (due : Due)
      → due ≡ after_stores files (metered_run plan turns source found t.runs.classes input pieces)
      → (k : ℕ) → due.answer ≢ Some (says (done.Trapped k))
  no_trap input due is k h =
      program_traps_not plan source found pieces input turns k
      (trap_told (program_for plan source found input pieces turns).outcome k (sym (ap (λ (d : Due). d.answer) is) ∙ h))

-- what is due of a translation with a meter, whose files are stored and whose classes run
pub metered_due : (plan : Plan) (method_bytes turns : ℕ) (source : Source) (files : List NamedFile) (t : TranslatedMetered source plan.name turns files)
    → AreMade (Some turns) source plan.name method_bytes files → (given : List GivenFile) (rest : Option (List ℕ)) (run later due : Due)
    → IsDueOfSteps (allowed_by_meter turns source) loaded_turn (loaded_program (program_of t.runs.classes) (need (image_of source).mapped)) plan rest given run
    → later ≡ after_stores files run → due ≡ told_by_meter later → IsDueOfMetered AreMade plan method_bytes turns source given rest due
metered_due plan method_bytes turns source files t made given rest run later due h behind told_is =
    let is : due ≡ after_stores files (metered_run plan turns source given t.runs.classes rest h.0) =
    told_is ∙ ap told_by_meter (behind ∙ ap (after_stores files) h.1)
    ∙ ap (after_stores files) (is_run plan turns source files t given h.0 rest) in
    record {
      files = files;
      translated = t.runs;
      made = made;
      pieces = h.0;
      is = is;
      as_program = as_program plan turns source files t given h.0 rest;
      no_trap = no_trap plan turns source files t given h.0 rest due is;
    }
