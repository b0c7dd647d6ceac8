-- That the classes of a translated program follow the guest turn by turn, and come to marked states.
use Rattle.std.specs.Prelude.{ℕ, Bool, false, List, Option}
use Rattle.run_definition.specs.declared.order.Order.{Order}
use Rattle.run_simulation_laws.specs.Turns.{LawOfTurn, LawOfMarks}
use Rattle.mips_definition.specs.State as guest
use Rattle.jvm_definition.specs.Program.{Program}
use Rattle.trampoline_laws.specs.Classes.{CodeClass}
use Rattle.trampoline_laws.specs.Programs.{IsTranslated}
use Rattle.emit_program_laws.specs.Counted.{pair}
use Rattle.emit_program_laws.specs.Rests.{Rests}
use Rattle.emit_program_laws.specs.Marks.{MarksPieces, AtPiece}

-- From each state of rest they follow the guest's next turn, or its next two where the first leads
-- into a delay slot, within 512 turns for one of the guest's, and come to rest again.
abbrev pub TurnsAreFollowed : Type 0
TurnsAreFollowed =
    (program : Program) (words : ℕ) (order : Order) (choose missing : ℕ)
    (classes : List CodeClass) (code : ℕ → Option ℕ) (marked : guest.State → Bool)
    → IsTranslated false program order choose missing classes code
    → MarksPieces classes marked
    → LawOfTurn (pair program words classes marked)
    (Rests program words order choose classes code) 512

-- From rest at a marked state of the guest they come within 150 turns that only move to the code of
-- the word at which it stands, with which a piece begins.
abbrev pub MarksAreReached : Type 0
MarksAreReached =
    (program : Program) (words : ℕ) (order : Order) (choose missing : ℕ)
    (classes : List CodeClass) (code : ℕ → Option ℕ) (marked : guest.State → Bool)
    → IsTranslated false program order choose missing classes code
    → MarksPieces classes marked
    → LawOfMarks (pair program words classes marked)
    (Rests program words order choose classes code)
    (AtPiece program words order classes choose code) 150
