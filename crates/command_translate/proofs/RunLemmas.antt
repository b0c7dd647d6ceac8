-- The run of a program's classes over the system, beside the run of the program.
use Rattle.std.proofs.Common.{◌≡◌, ◌≢◌, ℕ, ◌≤◌, IsTrue, List, [], ◌∷◌, Option, Some, None, ap, sym, unwrap_or, ◌∙◌, arith}
use Rattle.std.specs.Prelude.{option_map}
use Rattle.run_definition.specs.Answer.{Answer as Answered, answer_fits}
use Rattle.run_definition.specs.Question.{Question}
use Rattle.run_definition.specs.Run.{Run}
use Rattle.run_definition.specs.declared.fault.Fault.{Fault}
use Rattle.run_definition.specs.declared.outcome.Outcome.{Outcome}
use Rattle.run_definition.specs.declared.outcome.Outcome.TheVariants.{Exited, Faulted, Trapped, Waiting, Going}
use Rattle.mips_decode.proofs.FaultKinds.{run-faults}
use Rattle.mips_decode.specs.FaultKinds.{IsGuestKind}
use Rattle.mips_definition.specs.Step.{turn}
use Rattle.elf_definition.specs.Start.{Source, image_of}
use Rattle.unix_definition.specs.System.{System}
use Rattle.unix_definition.specs.Unix.{reply, system_start}
use Rattle.unix_calls.specs.Arriving.{Arriving, arrived, arriving, reply_arriving, reply_behind, without_pieces}
use Rattle.elf_definition.specs.Loading.{start_of}
use Rattle.jvm_definition.specs.Step.{loaded_program, loaded_turn}
use Rattle.class_definition.specs.Linking.{program_of}
use Rattle.translate_program.specs.Files.{allow, need}
use Rattle.translate_program.specs.declared.named_file.NamedFile.{NamedFile}
use Rattle.nv_translate.proofs.EndedRuns.{back, forth, system_fits}
use Rattle.nv_translate.specs.Translated.{EndsAs, Translated}
use Rattle.nv_translate.specs.Made.{AreMade}
use Rattle.command_deeds.specs.Ends.{CommandAnswer, Due, says}
use Rattle.command_deeds.specs.declared.alone.TheConstants.{BLOCKS}
use Rattle.command_deeds.specs.declared.done.Done.{Done}
use Rattle.command_deeds.specs.declared.done.Done.TheVariants as done
use Rattle.command_deeds.proofs.PlayLemmas.{IsDueOfSteps}
use Rattle.command_deeds.specs.Runs.{GivenFile, Plan, answer_of, arguments_of, of_runs, run_alone}
use Rattle.mips_decode.proofs.GuestEnds.{guest-untrapped}
use Rattle.command_translate.specs.Go.{IsDueOfTranslated}
use Rattle.command_translate.specs.Make.{classes_end, interp_end, made_name}
use Rattle.command_translate.specs.Stores.{classes_for, program_for, after_stores}

-- a trap is told of a run that ended in one
abbrev dones : Option CommandAnswer → Option Done
dones None = None
dones (Some answer) = Some answer.done

said : (end : Option Done) (told : Done) → option_map says end ≡ Some (says told) → end ≡ Some told
said None told h = cc
said (Some end) told h = ap dones h

trap_is : (o : Outcome) (k : ℕ) → answer_of o ≡ Some (done.Trapped k) → o ≡ Trapped k
trap_is (Exited status) k h = cc
trap_is (Faulted f) k h = cc
trap_is (Trapped t) k h = cc
trap_is Waiting k h = cc
trap_is Going k h = cc

pub trap_told : (o : Outcome) (k : ℕ) → option_map says (answer_of o) ≡ Some (says (done.Trapped k)) → o ≡ Trapped k
trap_told o k h = trap_is o k (said (answer_of o) (done.Trapped k) h)

trap_ends : (o : Outcome) (k : ℕ) → o ≡ Trapped k → o ≢ Going
trap_ends o k h going = cc

spent_told : (o : Outcome) → o ≡ Going → answer_of o ≡ Some done.Spent
spent_told o h = ap answer_of h

-- ---- `go`

-- an answer behind pieces fits, as each of the system's does
abbrev with_pieces : List (List ℕ) → Answered × System → Answered × Arriving
with_pieces pieces y = (y.0, arriving y.1 pieces)

given_fits : (given : Option (Answered × System)) (pieces : List (List ℕ)) (l : Arriving) (q : Question) (a : Answered)
    → ((m : System) → given ≡ Some (a, m) → IsTrue (answer_fits a q)) → option_map (with_pieces pieces) given ≡ Some (a, l) → IsTrue (answer_fits a q)
given_fits None pieces l q a fit is = cc
given_fits (Some y) pieces l q a fit is =
    let same : with_pieces pieces y ≡ (a, l) = ap (λ o. unwrap_or o (a, l)) is in
    fit y.1 (ap (λ z. Some (z.0, y.1)) same)

behind_fits : (s : System) (pieces : List (List ℕ)) (l : Arriving) (q : Question) (a : Answered) → reply_behind s pieces q ≡ Some (a, l) → IsTrue (answer_fits a q)
behind_fits s [] l q a is = given_fits (reply s q) [] l q a (λ m so. system_fits s m q a so) is
behind_fits s (piece ∷ pieces) l q a is =
    given_fits (reply (arrived s piece) q) pieces l q a (λ m so. system_fits (arrived s piece) m q a so) is

pub arriving_fits : (k l : Arriving) (q : Question) (a : Answered) → reply_arriving k q ≡ Some (a, l) → IsTrue (answer_fits a q)
arriving_fits k l q a is = behind_fits k.system k.pieces l q a is

without : {S T : Type 0} (run : Run S Arriving) (other : Run T Arriving) → EndsAs run other → EndsAs (without_pieces run) (without_pieces other)
without run other ends = record { calls = ends.calls; outcome = ends.outcome; system = ap (λ k. k.system) ends.system }

module _ (plan : Plan) (source : Source) (found : List GivenFile) (pieces : List (List ℕ)) where
  -- the system before its first call, where this is left of input
  abbrev pub system : List ℕ → System
  system input = system_start plan.session.disk plan.moment found (arguments_of plan) input

  pub program_traps_not : (input : Option (List ℕ)) (m k : ℕ) → (program_for plan source found input pieces m).outcome ≢ Trapped k
  program_traps_not (Some input) m k = guest-untrapped reply m k (start_of (image_of source)) (system input)
  program_traps_not None m k = guest-untrapped reply_arriving m k (start_of (image_of source)) (arriving (system []) pieces)

  pub program_faults_so : (input : Option (List ℕ)) (m : ℕ) (f : Fault) → (program_for plan source found input pieces m).outcome ≡ Faulted f → IsGuestKind f.kind
  program_faults_so (Some input) m f = run-faults reply m (start_of (image_of source)) (system input) f
  program_faults_so None m f = run-faults reply_arriving m (start_of (image_of source)) (arriving (system []) pieces) f

module _ (plan : Plan) (source : Source) (files : List NamedFile) (t : Translated source plan.name files)
    (found : List GivenFile) (pieces : List (List ℕ)) where
  abbrev mapped : ℕ
  mapped = (image_of source).mapped

  enough : need mapped ≤ need mapped
  enough = omega arith

  as_program : (input : Option (List ℕ)) (n : ℕ) → (program_for plan source found input pieces n).outcome ≢ Going
      → EndsAs (program_for plan source found input pieces n) (classes_for plan source found t.classes input pieces (allow mapped n))
  as_program (Some input) n over =
      forth reply system_fits source (program_of t.classes) (need mapped) (system plan source found pieces input) t.runs n enough over
  as_program None n over =
      without _ _ (forth reply_arriving arriving_fits source (program_of t.classes) (need mapped)
      (arriving (system plan source found pieces []) pieces) t.runs
      n enough over)

  as_classes : (input : Option (List ℕ)) (m : ℕ) → (classes_for plan source found t.classes input pieces m).outcome ≢ Going
      → EndsAs (classes_for plan source found t.classes input pieces m) (program_for plan source found input pieces m)
  as_classes (Some input) m over =
      back reply system_fits source (program_of t.classes) (need mapped) (system plan source found pieces input) t.runs m enough over
  as_classes None m over =
      without _ _ (back reply_arriving arriving_fits source (program_of t.classes) (need mapped)
      (arriving (system plan source found pieces []) pieces) t.runs
      m enough over)

  no_trap : (input : Option (List ℕ)) (due : Due)
      → due ≡ of_runs loaded_turn (allow mapped plan.session.steps) (classes_for plan source found t.classes input pieces) plan.session.keep.names
      → (k : ℕ) → due.answer ≢ Some (says (done.Trapped k))
  no_trap input due is k h =
      let bound = allow mapped plan.session.steps in
      let run = classes_for plan source found t.classes input pieces bound in
      let trapped : run.outcome ≡ Trapped k = trap_told run.outcome k (sym (ap (λ d. d.answer) is) ∙ h) in
      program_traps_not plan source found pieces input bound k ((as_classes input bound (trap_ends run.outcome k trapped)).outcome ∙ trapped)

-- what is due of a translation, whose files are stored and whose classes run
pub run_due : (plan : Plan) (method_bytes : ℕ) (source : Source) (files : List NamedFile) (t : Translated source plan.name files)
    → AreMade None source plan.name method_bytes files → (given : List GivenFile) (rest : Option (List ℕ)) (later due : Due)
    → IsDueOfSteps (allow (image_of source).mapped plan.session.steps) loaded_turn
    (loaded_program (program_of t.classes) (need (image_of source).mapped)) plan rest given later
    → due ≡ after_stores files later → IsDueOfTranslated AreMade plan method_bytes source given rest due
run_due plan method_bytes source files t made given rest later due h is = record {
  files = files;
  translated = t;
  made = made;
  pieces = h.0;
  is = is ∙ ap (after_stores files) h.1;
  as_program = as_program plan source files t given h.0 rest plan.session.steps;
  as_classes = as_classes plan source files t given h.0 rest (allow (image_of source).mapped plan.session.steps);
  no_trap = λ k told. no_trap plan source files t given h.0 rest later h.1 k (sym (ap (λ d. d.answer) is) ∙ told);
}

-- ---- `make`

-- where the program ends within its steps, its classes end as it does
pub same_end : (steps moment : ℕ) (source : Source) (files : List NamedFile) (t : Translated source made_name files)
    → interp_end steps moment source ≢ Some done.Spent
    → classes_end steps moment source t.classes ≡ interp_end steps moment source
same_end steps moment source files t over =
    let mapped = (image_of source).mapped in
    let alike = t.ends.forth (system_start BLOCKS moment [] (made_name ∷ []) []) (need mapped) steps (omega arith)
    (λ going. over (spent_told (run_alone steps turn (start_of (image_of source)) made_name moment).outcome going)) in
    ap answer_of alike.outcome
