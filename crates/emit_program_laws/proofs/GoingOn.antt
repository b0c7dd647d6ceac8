-- The classes rest where the host enters them above a frame that cannot go on, and run so without it.
use Rattle.std.proofs.Common.{ℕ, ◌*◌, Bool, false, List, Option, refl, inr, arith}
use Rattle.std.proofs.lemmas.Bool.{false≢true}
use Rattle.run_definition.specs.declared.order.Order.{Order}
use Rattle.run_definition.specs.Answer.{Answer, next_answer}
use Rattle.run_simulation_laws.specs.Turns.{Pair, LawOfTurn}
use Rattle.run_simulation_laws.specs.Runs.{SameRuns}
use Rattle.run_simulation_laws.proofs.Answering.{next_fits}
use Rattle.run_simulation_laws.proofs.Comparing.{compared}
use Rattle.mips_definition.specs.State as guest
use Rattle.mips_definition.specs.Step as guest_step
use Rattle.jvm_definition.specs.declared.value.Value.{Value}
use Rattle.jvm_definition.specs.Values.{Heap}
use Rattle.jvm_definition.specs.Program.{Program}
use Rattle.jvm_definition.specs.Step.{Frame, JvmState, jvm_turn}
use Rattle.jvm_run_laws.specs.Below.{above}
use Rattle.jvm_run_laws.proofs.Followed.{followed-without}
use Rattle.jvm_run_laws.proofs.FramesBelow.{some-nowhere}
use Rattle.emit_program_laws.specs.TrampolineLaws.Classes.{CodeClass}
use Rattle.emit_program_laws.specs.TrampolineLaws.Programs.{IsTranslated}
use Rattle.emit_program_laws.specs.Counted.{Counted, pair}
use Rattle.emit_program_laws.specs.Marks.{MarksPieces}
use Rattle.emit_program_laws.specs.Standing.{AtChoose}
use Rattle.emit_program_laws.specs.Rests.{Rests}
use Rattle.emit_program_laws.specs.Turning.{TurnsAreFollowed}
use Rattle.emit_program_laws.specs.Entered.{entered_over, work_over, HoldsGuest, EnteredProgramsGoOn}
use Rattle.mips_decode.proofs.GuestEnds.{guest-untrapped}

-- where no state is marked
abbrev unmarked : guest.State → Bool
unmarked s = false

none-marked : (classes : List CodeClass) → MarksPieces classes unmarked
none-marked classes = record {
  between = λ s e. absurd (false≢true e);
  in_class = λ s e. absurd (false≢true e);
  begin = λ s n c j k e there below first end at. absurd (false≢true e);
}

-- Where the method is entered above a frame, they rest, with a meter or without.
pub rests-above : (program : Program) (words : ℕ) (order : Order) (choose : ℕ) (classes : List CodeClass) (code : ℕ → Option ℕ) (below : Frame) (fields : ℕ → Value) (heap : Heap) (t : guest.State) → HoldsGuest order code choose fields heap t → Rests program words order choose classes code t (above below (entered_over choose fields heap))
rests-above program words order choose classes code below fields heap t h =
    let at_choose : AtChoose choose (above below (entered_over choose fields heap)) t = record {
      at_start = below;
      stands = record {
        workspace = work_over choose fields heap;
        held = h.held;
        no_operands = refl;
        pc_is = h.pc_is;
        is_there = refl;
      };
    } in
    record {
      guest_is = h.guest_is;
      pc_word = h.pc_word;
      stands = inr (inr (inr at_choose));
    }

module _ (turns : TurnsAreFollowed) (program : Program) (words : ℕ) (order : Order) (choose missing : ℕ) (classes : List CodeClass) (code : ℕ → Option ℕ) (is : IsTranslated false program order choose missing classes code) where
  abbrev machines : Pair guest.State JvmState Counted
  machines = pair program words classes unmarked

  abbrev Resting : guest.State → JvmState → Type 0
  Resting = Rests program words order choose classes code

  law : LawOfTurn machines Resting 512
  law = turns program words order choose missing classes code unmarked is (none-marked classes)

  -- from a state of rest
  same-from-rest : (t : guest.State) (y : JvmState) (answers : List Answer) → Resting t y → SameRuns guest_step.turn (jvm_turn program words) next_answer (λ n. 512 * n) t y answers
  same-from-rest t y answers rests = record {
    forth = λ n. (compared machines next_answer Resting 512 law (λ k l q a. next_fits k l q a) n n (512 * n) (omega arith) t y answers rests).forth (omega arith);
    back = λ m. (compared machines next_answer Resting 512 law (λ k l q a. next_fits k l q a) m m m (omega arith) t y answers rests).back (omega arith);
  }

  goes-on : (fields : ℕ → Value) (heap : Heap) (t : guest.State) (answers : List Answer) → HoldsGuest order code choose fields heap t → SameRuns guest_step.turn (jvm_turn program words) next_answer (λ n. 512 * n) t (entered_over choose fields heap) answers
  goes-on fields heap t answers h =
      let frame = some-nowhere program in
      followed-without guest_step.turn next_answer program words (λ n. 512 * n) frame.0 (entered_over choose fields heap) t answers frame.1
      (λ n trap. guest-untrapped next_answer n trap t answers)
      (same-from-rest t (above frame.0 (entered_over choose fields heap)) answers (rests-above program words order choose classes code frame.0 fields heap t h))

pub programs-go-on : TurnsAreFollowed → EnteredProgramsGoOn
programs-go-on turns program words order choose missing classes code fields heap t answers is h =
    goes-on turns program words order choose missing classes code is fields heap t answers h
