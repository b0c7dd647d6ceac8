-- Shifts by an amount that stands in the instruction, or in a register.
use Rattle.std.proofs.Common.{◌≡◌, ℕ, ◌<◌, ◌==◌, Bool, true, false, if◌then◌else◌, List, [], ◌∷◌, refl, ap, sym, ◌∙◌, lit≤}
use Rattle.std.proofs.lemmas.Bool.{eqb-true}
use Rattle.mips_definition.specs.Arithmetic.{shifted, variable_shifted}
use Rattle.mips_definition.specs.declared.inst.Inst.TheVariants as inst
use Rattle.mips_definition.specs.declared.names.shift_name.ShiftName.{ShiftName}
use Rattle.mips_definition.specs.declared.names.variable_shift_name.VariableShiftName.{VariableShiftName}
use Rattle.jvm_definition.specs.declared.instruction.Instruction.TheVariants as instructions
use Rattle.emit_steps.specs.declared.step.Step.{Step}
use Rattle.emit_steps.specs.declared.step.Step.TheVariants.{Does}
use Rattle.emit_instructions.specs.Access.{get_register, put_register, push_word}
use Rattle.emit_instructions.specs.Computing.{shift_code, shift_name, variable_shift_name, moved_code}
use Rattle.emit_simulation_laws.specs.Knowing.{IsKnown}
use Rattle.emit_simulation_laws.proofs.GuestFollows.CodeLaws.{CodeLaws}
use Rattle.emit_instructions_laws.specs.Instructions.{InstructionFollows}
use Rattle.emit_instructions_laws.proofs.InstructionLaws.Settings.{Setting, by-setting, Lies, Gives, word_in, word_in-word, register-pushed, word-pushed}
use Rattle.emit_instructions_laws.proofs.InstructionLaws.Endings.{lost-put}
use Rattle.emit_instructions_laws.proofs.InstructionLaws.Combined.{moved-gives, shifted-gives}
use Rattle.emit_instructions_laws.proofs.InstructionLaws.Words.{shift-is, variable-shift-is, shift-none, shifted-word}

-- a shift to register 0 does nothing, and one by 0 is a move
module _ (laws : CodeLaws) (x : Setting) (name : ShiftName) (rt rd sa : ℕ) (below : rd < 32) (few : sa < 32) (it : IsKnown x.known rt) where
  abbrev result : ℕ
  result = shifted name (word_in x rt) sa

  abbrev moving : List Step
  moving = get_register x.bank rt ∷ push_word sa ∷ Does (instructions.IntShift (shift_name name)) ∷ put_register x.bank rd ∷ []

  moved-or-shifted : (c : Bool) → (sa == 0) ≡ c → Lies x (if c then moved_code x.bank rt rd else moving)
      → Gives x (if c then moved_code x.bank rt rd else moving) rd result
  moved-or-shifted true e lies =
      let word = word_in-word x rt it in
      moved-gives laws x rd below (get_register x.bank rt) (word_in x rt) result lies (register-pushed x rt it) word
      (shift-none name (word_in x rt) word ∙ ap (shifted name (word_in x rt)) (sym (eqb-true sa 0 e)))
  moved-or-shifted false e lies =
      shifted-gives laws x rd below (get_register x.bank rt) (push_word sa) (word_in x rt) sa (register-pushed x rt it) (word-pushed x sa)
      (shift_name name) result lies (word_in-word x rt it)
      (shift-is name (word_in x rt) sa few)

  nothing-or-shifted : (b : Bool) → (rd == 0) ≡ b
      → Lies x (if b then Does instructions.Nop ∷ [] else if sa == 0 then moved_code x.bank rt rd else moving)
      → Gives x (if b then Does instructions.Nop ∷ [] else if sa == 0 then moved_code x.bank rt rd else moving) rd result
  nothing-or-shifted true e lies =
      lost-put laws x (Does instructions.Nop ∷ []) lies rd result 1 below e (shifted-word name (word_in x rt) sa (word_in-word x rt it) few) (lit≤ tt)
      (lit≤ tt) refl
  nothing-or-shifted false e lies = moved-or-shifted (sa == 0) refl lies

  shift-done : Lies x (shift_code x.bank name rt rd sa) → Gives x (shift_code x.bank name rt rd sa) rd result
  shift-done lies = nothing-or-shifted (rd == 0) refl lies

pub shift-follows : CodeLaws → (name : ShiftName) (rt rd sa : ℕ) → InstructionFollows (inst.Shift name rt rd sa)
shift-follows laws name rt rd sa =
    by-setting (inst.Shift name rt rd sa) (λ x fields lies reads. shift-done laws x name rt rd sa fields.writes.0 fields.amount reads.0 lies)

pub variable-shift-follows : CodeLaws → (name : VariableShiftName) (rs rt rd : ℕ) → InstructionFollows (inst.VariableShift name rs rt rd)
variable-shift-follows laws name rs rt rd =
    by-setting (inst.VariableShift name rs rt rd) (λ x fields lies reads.
    shifted-gives laws x rd fields.writes.0 (get_register x.bank rt) (get_register x.bank rs) (word_in x rt) (word_in x rs)
    (register-pushed x rt reads.1.0) (register-pushed x rs reads.0) (variable_shift_name name) (variable_shifted name (word_in x rt) (word_in x rs))
    lies (word_in-word x rt reads.1.0)
    (variable-shift-is name (word_in x rt) (word_in x rs)))
