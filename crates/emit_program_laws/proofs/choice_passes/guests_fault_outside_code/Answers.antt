use Rattle.std.proofs.Common.{ℕ, Option, sym, subst}
use Rattle.emit_program_laws.specs.Standing.{IsStray}
use Rattle.emit_program_laws.proofs.ChoicePasses.Ranges.{guest-strays}
use Rattle.emit_program_laws.proofs.choice_passes.guests_fault_outside_code.Goals as goal

pub returns : goal.returns
returns c order code t guest_is stray =
    guest-strays t guest_is.begun (subst (λ (f : ℕ → Option ℕ). IsStray f t.pc) (sym guest_is.code_is) stray)
