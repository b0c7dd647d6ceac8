-- Classes with a meter run as their program over each system, of whatever kind, where they do so over each list of answers.
use Rattle.std.proofs.Common.{◌≡◌, ◌≢◌, ◌⊎◌, ◌+◌, ◌∙◌, ℕ, ◌≤◌, IsTrue, List, [], Option, Some, refl, sym, inl, inr, arith}
use Rattle.std.proofs.lemmas.List.{append-nil}
use Rattle.run_definition.specs.Answer.{Answer, answer_fits, next_answer}
use Rattle.run_definition.specs.Question.{Question}
use Rattle.run_definition.specs.Run.{Run, run_of}
use Rattle.run_definition.specs.Turn.{End}
use Rattle.run_definition.specs.declared.outcome.Outcome.{Outcome}
use Rattle.run_definition.specs.declared.outcome.Outcome.TheVariants.{Exited, Faulted, Trapped, Waiting, Going}
use Rattle.run_simulation_laws.proofs.Answering.{agrees_told}
use Rattle.run_simulation_laws.proofs.Following.{end_is_over}
use Rattle.run_simulation_laws.proofs.Metering.{metered_run}
use Rattle.run_simulation_laws.specs.Meter.{IsMetered, metered}
use Rattle.run_simulation_laws.specs.Runs.{Agrees, AgreesInCalls}
use Rattle.mips_definition.specs.State as guest
use Rattle.mips_definition.specs.Step as guest_step
use Rattle.elf_definition.specs.Start.{Source, image_of}
use Rattle.elf_definition.specs.Loading.{start_of}
use Rattle.emit_metered_laws.specs.Metering.{spent}
use Rattle.jvm_definition.specs.Program.{Program}
use Rattle.jvm_definition.specs.Step.{jvm_start, jvm_turn, loaded_program, loaded_turn}
use Rattle.emit_paths_laws.specs.Classes.{IsRunLoaded}
use Rattle.emit_paths_laws.proofs.Loaded.{loaded_run}
use Rattle.translate_program.specs.Files.{meter_allow, need}
use Rattle.nv_translate.specs.Metered.{StopsByItsMeter}

pub going_or_not : (o : Outcome) → (o ≡ Going) ⊎ (o ≢ Going)
going_or_not (Exited status) = inr (λ e. cc)
going_or_not (Faulted f) = inr (λ e. cc)
going_or_not (Trapped k) = inr (λ e. cc)
going_or_not Waiting = inr (λ e. cc)
going_or_not Going = inl refl

-- ---- runs by the same meter

module _ {S T U K : Type 0} (end : S → End) (run : Run S K) (one : Run T K) (other : Run U K) (first : IsMetered end run one) (second : IsMetered end run other) where
  same_outcome : (run.outcome ≡ Going) ⊎ (run.outcome ≢ Going) → other.outcome ≡ one.outcome
  same_outcome (inl going) = second.goes going ∙ sym (first.goes going)
  same_outcome (inr over) = second.over over ∙ sym (first.over over)

  same_questions : other.questions ≡ one.questions
  same_questions = second.questions ∙ sym first.questions

  metered_agree : AgreesInCalls one other
  metered_agree = record {
    questions = ([], same_questions ∙ sym (append-nil one.questions));
    over = λ h. (same_questions, same_outcome (going_or_not run.outcome));
  }

-- a run by a meter is over
is_over : {S T K : Type 0} (end : S → End) (run : Run S K) (one : Run T K) → IsMetered end run one → one.outcome ≢ Going
is_over end run one h = by (going_or_not run.outcome)
  where
    by : (run.outcome ≡ Going) ⊎ (run.outcome ≢ Going) → one.outcome ≢ Going
    by (inl going) e = end_is_over (end run.last) (sym (h.goes going) ∙ e)
    by (inr over) e = over (sym (h.over over) ∙ e)

-- ---- the classes of a translation

module _ {K : Type 0} (reply : K → Question → Option (Answer × K)) (fitting : (k l : K) (q : Question) (a : Answer) → reply k q ≡ Some (a, l) → IsTrue (answer_fits a q))
    (source : Source) (turns : ℕ) (program : Program) (words m : ℕ) (stops : StopsByItsMeter source turns program) (room : need (image_of source).mapped ≤ words)
    (enough : meter_allow (image_of source).mapped turns ≤ m) (system : K) where
  -- how the guest begins, and with its meter
  abbrev begins : guest.State
  begins = start_of (image_of source)

  abbrev metered_for : {L : Type 0} → (L → Question → Option (Answer × L)) → L → Run (ℕ × guest.State) L
  metered_for answering l = run_of (metered guest_step.turn spent) answering (turns + 1) (turns, begins) l

  -- over lists of answers, the classes and the guest with the meter run the same
  with_meter : (answers : List Answer) → IsMetered spent (run_of guest_step.turn next_answer turns begins answers) (metered_for next_answer answers)
  with_meter answers = metered_run guest_step.turn spent next_answer turns (turns + 1) begins answers (omega arith)

  forth : (answers : List Answer) → AgreesInCalls (metered_for next_answer answers) (run_of (jvm_turn program words) next_answer m (jvm_start program) answers)
  forth answers = metered_agree spent _ _ _ (with_meter answers) (stops.metered words m answers room enough)

  back : (answers : List Answer) → AgreesInCalls (run_of (jvm_turn program words) next_answer m (jvm_start program) answers) (metered_for next_answer answers)
  back answers = metered_agree spent _ _ _ (stops.metered words m answers room enough) (with_meter answers)

  -- so they do over the system
  agree : Agrees (metered_for reply system) (run_of (jvm_turn program words) reply m (jvm_start program) system)
  agree =
      agrees_told reply fitting (metered guest_step.turn spent) (jvm_turn program words) (turns + 1) m (turns + 1) (turns, begins) (jvm_start program)
      forth back system

  is_loaded : IsRunLoaded program words (run_of (jvm_turn program words) reply m (jvm_start program) system) (run_of loaded_turn reply m (loaded_program program words) system)
  is_loaded = loaded_run program words reply m (jvm_start program) system

  pub metered_over : IsMetered spent (run_of guest_step.turn reply turns begins system) (run_of loaded_turn reply m (loaded_program program words) system)
  metered_over =
      let by = metered_run guest_step.turn spent reply turns (turns + 1) begins system (omega arith) in
      let ends = agree.over (is_over spent _ _ by) in
      let l = is_loaded in
      record {
        questions = l.questions ∙ ends.0 ∙ by.questions;
        system = l.system ∙ ends.2 ∙ by.system;
        goes = λ going. l.outcome ∙ ends.1 ∙ by.goes going;
        over = λ over. l.outcome ∙ ends.1 ∙ by.over over;
      }
