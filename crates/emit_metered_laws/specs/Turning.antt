-- That the classes of a program with a meter follow the guest turn by turn, as far as the meter goes.
use Rattle.std.specs.Prelude.{ℕ, true, List, Option}
use Rattle.run_definition.specs.declared.order.Order.{Order}
use Rattle.run_simulation_laws.specs.Pairs.{LawByMeter}
use Rattle.mips_definition.specs.Step as guest_step
use Rattle.jvm_definition.specs.Program.{Program}
use Rattle.jvm_definition.specs.Step.{jvm_turn}
use Rattle.emit_program_laws.specs.TrampolineLaws.Classes.{CodeClass}
use Rattle.emit_program_laws.specs.TrampolineLaws.Programs.{IsTranslated}
use Rattle.emit_metered_laws.specs.Metering.{RestsByMeter, spent}

-- From each state of rest they follow the guest's next turn, or its next two where the first leads into a delay slot, within 1024 turns for one
-- of the guest's, and come to rest where these are taken off the meter. Where it has not enough for them, they end as a spent meter does.
abbrev pub MeteredTurnsAreFollowed : Type 0
MeteredTurnsAreFollowed =
    (program : Program) (words : ℕ) (order : Order) (choose missing : ℕ)
    (classes : List CodeClass) (code : ℕ → Option ℕ)
    → IsTranslated true program order choose missing classes code
    → LawByMeter guest_step.turn (jvm_turn program words) spent
    (RestsByMeter program words order choose classes code) 1024
