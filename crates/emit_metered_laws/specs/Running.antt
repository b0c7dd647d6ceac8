-- What holds of the runs of programs with a meter.
use Rattle.std.specs.Prelude.{ℕ, ◌+◌, ◌*◌, ◌≤◌, Option}
use Rattle.run_definition.specs.Question.{Question}
use Rattle.run_definition.specs.Answer.{Answer}
use Rattle.run_definition.specs.Run.{run_of}
use Rattle.run_simulation_laws.specs.Meter.{IsMetered}
use Rattle.run_simulation_laws.specs.MeteredLaws.{MeteredFromStart}
use Rattle.run_simulation_laws.specs.Pairs.{FollowsByMeter, LawByMeter}
use Rattle.mips_definition.specs.State as guest
use Rattle.mips_definition.specs.Step as guest_step
use Rattle.jvm_definition.specs.Step.{JvmState, jvm_start, jvm_turn}
use Rattle.emit_program_laws.specs.Translated.{guest_start}
use Rattle.emit_metered_laws.specs.Metering.{spent}
use Rattle.emit_metered_laws.specs.Programs.{MeteredProgram, IsMeteredProgram, LoadsByMeterWithin, resting}

-- ---- from the start

-- The classes follow the guest from its first turn on, which the loader's call is, and then turn by turn.
pub record FollowsFromStart (p : MeteredProgram) (most_to_start : ℕ) : Type 0 where
  pub turns : LawByMeter guest_step.turn (jvm_turn p.translated.program p.translated.words) spent
      (resting p) 1024
  pub begins : FollowsByMeter guest_step.turn (jvm_turn p.translated.program p.translated.words) spent
      (resting p) (λ k. most_to_start + 2 * 1024) p.turns (guest_start p.translated)
      (jvm_start p.translated.program)

-- as the laws of runs with a meter want it
abbrev pub from_start : (p : MeteredProgram) (most_to_start : ℕ) → FollowsFromStart p most_to_start
    → MeteredFromStart guest.State JvmState (resting p)
from_start p most_to_start follows = record {
  guest = guest_step.turn;
  classes = jvm_turn p.translated.program p.translated.words;
  spent = spent;
  most = 1024;
  start = most_to_start;
  left = p.turns;
  guest_at = guest_start p.translated;
  classes_at = jvm_start p.translated.program;
  turns = follows.turns;
  begins = follows.begins;
}

-- It is so for each such program, and each number of turns within which it loads.
abbrev pub MeteredProgramsFollow : Type 0
MeteredProgramsFollow =
    (p : MeteredProgram) (most_to_start : ℕ)
    → IsMeteredProgram p
    → LoadsByMeterWithin p most_to_start
    → FollowsFromStart p most_to_start

-- ---- runs

-- Over a kind of system state: the classes' run of enough turns is the guest's of so many as were put on the meter, and then ends so.
abbrev pub RunsByMeter : {K : Type 0} → MeteredProgram → ℕ
    → (K → Question → Option (Answer × K)) → Type 0
RunsByMeter {K} p most_to_start reply =
    (m : ℕ) (k : K)
    → 1024 * (p.turns + 2) + most_to_start ≤ m
    → IsMetered spent
    (run_of guest_step.turn reply p.turns (guest_start p.translated) k)
    (run_of (jvm_turn p.translated.program p.translated.words) reply m (jvm_start p.translated.program) k)

-- It is so for each such program, and each number of turns within which it loads.
abbrev pub MeteredProgramsRun : {K : Type 0} → (K → Question → Option (Answer × K)) → Type 0
MeteredProgramsRun {K} reply =
    (p : MeteredProgram) (most_to_start : ℕ)
    → IsMeteredProgram p
    → LoadsByMeterWithin p most_to_start
    → RunsByMeter p most_to_start reply
