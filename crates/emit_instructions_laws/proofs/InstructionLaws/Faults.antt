-- The instructions that only fault, and SYNC, which does nothing.
use Rattle.std.proofs.Common.{ℕ, [], refl, lit≤}
use Rattle.mips_definition.specs.Effect.{break_fault, reserved_fault}
use Rattle.mips_definition.specs.declared.inst.Inst.TheVariants as inst
use Rattle.emit_instructions.specs.Faulting.{fault_code}
use Rattle.emit_instructions.specs.Units.{instruction_code}
use Rattle.emit_simulation_laws.proofs.GuestFollows.CodeLaws.{CodeLaws}
use Rattle.emit_instructions_laws.specs.Instructions.{InstructionFollows}
use Rattle.emit_instructions_laws.proofs.InstructionLaws.Settings.{by-setting}
use Rattle.emit_instructions_laws.proofs.InstructionLaws.Endings.{nothing-done, fault-done}

pub break-follows : CodeLaws → (code : ℕ) → InstructionFollows (inst.Break code)
break-follows laws code =
    by-setting (inst.Break code) (λ x fields lies reads. fault-done laws x (fault_code break_fault x.state.pc code) lies [] break_fault code refl)

pub reserved-follows : CodeLaws → (word : ℕ) → InstructionFollows (inst.Reserved word)
reserved-follows laws word =
    by-setting (inst.Reserved word)
    (λ x fields lies reads. fault-done laws x (fault_code reserved_fault x.state.pc word) lies [] reserved_fault word refl)

pub sync-follows : CodeLaws → (sa : ℕ) → InstructionFollows (inst.Sync sa)
sync-follows laws sa =
    by-setting (inst.Sync sa)
    (λ x fields lies reads. nothing-done laws x (instruction_code x.bank (inst.Sync sa) x.state.pc) lies 1 (lit≤ tt) (lit≤ tt) refl)
