-- The runs of a program and of its classes over one system, of whatever kind, end alike.
use Rattle.std.proofs.Common.{◌≡◌, ◌≢◌, ℕ, ◌≤◌, ◌∙◌, Bool, true, false, if◌then◌else◌, IsTrue, Option, Some, None, refl, ap, sym, unwrap_or}
use Rattle.std.proofs.lemmas.Option.{none-some}
use Rattle.run_definition.specs.Answer.{Answer, answer_fits, next_answer}
use Rattle.run_definition.specs.Question.{Question}
use Rattle.run_definition.specs.Run.{Run, run_of}
use Rattle.run_definition.specs.declared.outcome.Outcome.TheVariants.{Going}
use Rattle.run_simulation_laws.specs.Runs.{SameRuns}
use Rattle.run_simulation_laws.proofs.Answering.{same_calls, same_told}
use Rattle.mips_definition.specs.State as guest
use Rattle.mips_definition.specs.Step as guest_step
use Rattle.elf_definition.specs.Start.{Source, image_of}
use Rattle.unix_definition.specs.System.{System}
use Rattle.unix_definition.specs.Unix.{unix, reply}
use Rattle.elf_definition.specs.Loading.{start_of}
use Rattle.jvm_definition.specs.Program.{Program}
use Rattle.jvm_definition.specs.Step.{JvmState, Loaded, jvm_start, jvm_turn, loaded_program, loaded_turn}
use Rattle.emit_paths_laws.specs.Classes.{IsRunLoaded}
use Rattle.emit_paths_laws.proofs.Loaded.{loaded_run}
use Rattle.translate_program.specs.Files.{allow, need}
use Rattle.nv_translate.specs.Translated.{EndsAs, RunsAlike}

-- an answer that the system gives fits the question
fits_if : (fit : Bool) (q : Question) (given : Answer × System) (a : Answer) (l : System) → answer_fits given.0 q ≡ fit
    → (if fit then Some given else None) ≡ Some (a, l) → IsTrue (answer_fits a q)
fits_if true q given a l e h =
    ap (λ (x : Option (Answer × System)). answer_fits (unwrap_or x (a, l)).0 q) (sym h) ∙ e
fits_if false q given a l e h = absurd (none-some (a, l) h)

pub system_fits : (k l : System) (q : Question) (a : Answer) → reply k q ≡ Some (a, l) → IsTrue (answer_fits a q)
system_fits k l q a h = fits_if (answer_fits (unix k q).0 q) q (unix k q) a l refl h

module _ {K : Type 0} (reply : K → Question → Option (Answer × K)) (fitting : (k l : K) (q : Question) (a : Answer) → reply k q ≡ Some (a, l) → IsTrue (answer_fits a q))
    (source : Source) (program : Program) (words : ℕ) (system : K) where
  -- how the guest begins, and the allowance
  abbrev begins : guest.State
  begins = start_of (image_of source)

  abbrev allowed : ℕ → ℕ
  allowed = allow (image_of source).mapped

  abbrev HasRoom : Type 0
  HasRoom = need (image_of source).mapped ≤ words

  -- the run of the guest, that of the program's state, and that of the loaded program
  abbrev of_guest : ℕ → Run guest.State K
  of_guest n = run_of guest_step.turn reply n begins system

  abbrev of_state : ℕ → Run JvmState K
  of_state m = run_of (jvm_turn program words) reply m (jvm_start program) system

  abbrev of_loaded : ℕ → Run Loaded K
  of_loaded m = run_of loaded_turn reply m (loaded_program program words) system

  same : RunsAlike source program → HasRoom → SameRuns guest_step.turn (jvm_turn program words) reply allowed begins (jvm_start program) system
  same alike room =
      same_told reply fitting guest_step.turn (jvm_turn program words) allowed begins (jvm_start program)
      (λ answers. same_calls guest_step.turn (jvm_turn program words) next_answer allowed begins (jvm_start program) answers (alike.same words answers room))
      system

  is_loaded : (m : ℕ) → IsRunLoaded program words (of_state m) (of_loaded m)
  is_loaded m = loaded_run program words reply m (jvm_start program) system

  pub forth : RunsAlike source program → (n : ℕ) → HasRoom → (of_guest n).outcome ≢ Going → EndsAs (of_guest n) (of_loaded (allowed n))
  forth alike n room over =
      let ends = ((same alike room).forth n).over over in
      let l = is_loaded (allowed n) in
      record { calls = l.questions ∙ ends.0; outcome = l.outcome ∙ ends.1; system = l.system ∙ ends.2 }

  pub back : RunsAlike source program → (m : ℕ) → HasRoom → (of_loaded m).outcome ≢ Going → EndsAs (of_loaded m) (of_guest m)
  back alike m room over =
      let l = is_loaded m in
      let ends = ((same alike room).back m).over (λ e. over (l.outcome ∙ e)) in
      record { calls = ends.0 ∙ sym l.questions; outcome = ends.1 ∙ sym l.outcome; system = ends.2 ∙ sym l.system }
