-- What is held at calls from each state of rest on, turn by turn.
use Rattle.std.specs.Prelude.{ℕ, ◌-◌, true, false, List, Option}
use Rattle.run_definition.specs.declared.order.Order.{Order}
use Rattle.run_simulation_laws.specs.Meter.{metered}
use Rattle.run_simulation_laws.specs.Pairs.{by_meter}
use Rattle.mips_definition.specs.State as guest
use Rattle.mips_definition.specs.Step as guest_step
use Rattle.jvm_definition.specs.Program.{Program}
use Rattle.jvm_definition.specs.Step.{JvmState, jvm_turn}
use Rattle.trampoline_laws.specs.Classes.{CodeClass}
use Rattle.trampoline_laws.specs.Programs.{IsTranslated}
use Rattle.emit_program_laws.specs.Rests.{Rests}
use Rattle.emit_metered_laws.specs.Metering.{RestsByMeter, spent}
use Rattle.emit_calls_laws.specs.Calls.{LawOfCalls}
use Rattle.emit_calls_laws.specs.Holding.{HoldsAtCall, HoldsAtMeteredCall}

-- fields and arrays of the classes hold a state as at calls
abbrev pub HoldThere : guest.State → JvmState → Type 0
HoldThere t y = HoldsAtCall y.fields y.heap t

-- The law of calls of a translated program.
abbrev pub TurnsHoldAtCalls : Type 0
TurnsHoldAtCalls =
    (program : Program) (words : ℕ) (order : Order) (choose missing : ℕ)
    (classes : List CodeClass) (code : ℕ → Option ℕ)
    → IsTranslated false program order choose missing classes code
    → LawOfCalls guest_step.turn (jvm_turn program words)
    (Rests program words order choose classes code) HoldThere

-- With a meter the turn that calls is taken off before.
abbrev pub HoldThereByMeter : ℕ × guest.State → JvmState → Type 0
HoldThereByMeter s y = HoldsAtMeteredCall (s.0 - 1) s.1 y

-- So it is with a meter.
abbrev pub MeteredTurnsHoldAtCalls : Type 0
MeteredTurnsHoldAtCalls =
    (program : Program) (words : ℕ) (order : Order) (choose missing : ℕ)
    (classes : List CodeClass) (code : ℕ → Option ℕ)
    → IsTranslated true program order choose missing classes code
    → LawOfCalls (metered guest_step.turn spent) (jvm_turn program words)
    (by_meter (RestsByMeter program words order choose classes code)) HoldThereByMeter
