-- The instructions that compute from a register and an immediate.
use Rattle.std.proofs.Common.{◌≡◌, ℕ, ◌*◌, ◌^◌, ◌<◌, ◌==◌, nat_lt, int_lt, pos, Bool, true, false, if◌then◌else◌, List, [], ◌∷◌, ◌++◌, refl, ap, sym, ◌∙◌, arith, lit≤}
use Rattle.std.specs.Int.Bits.{or_zero_r, or_zero_l}
use Rattle.std.proofs.lemmas.Bool.{eqb-true}
use Rattle.run_definition.specs.Words.{IsWord, signed_of}
use Rattle.mips_decode.specs.Encoding.{word_of}
use Rattle.mips_definition.specs.Targets.{extended_imm}
use Rattle.mips_definition.specs.declared.inst.Inst.TheVariants as inst
use Rattle.mips_definition.specs.declared.names.arithmetic_immediate_name.ArithmeticImmediateName.{ArithmeticImmediateName}
use Rattle.mips_definition.specs.declared.names.arithmetic_immediate_name.ArithmeticImmediateName.TheVariants.{Addi, Addiu, Slti, Sltiu}
use Rattle.mips_definition.specs.declared.names.logical_immediate_name.LogicalImmediateName.{LogicalImmediateName}
use Rattle.mips_definition.specs.declared.names.logical_immediate_name.LogicalImmediateName.TheVariants.{Andi, Ori, Xori}
use Rattle.delay_slots.specs.Turns.{done}
use Rattle.block_builder.specs.Registers.{general}
use Rattle.jvm_definition.specs.declared.branch_name.BranchName.TheVariants.{IfIcmplt, Ifeq}
use Rattle.jvm_definition.specs.declared.int_arithmetic.IntArithmetic.{IntArithmetic}
use Rattle.jvm_definition.specs.declared.int_arithmetic.IntArithmetic.TheVariants.{Iadd, Iand, Ior, Ixor}
use Rattle.jvm_definition.specs.declared.value.Value.TheVariants.{Int as int}
use Rattle.jvm_definition.specs.Effect.{same_integer}
use Rattle.jvm_definition.specs.Words.{int_result}
use Rattle.emit_steps.specs.declared.step.Step.{Step}
use Rattle.emit_instructions.specs.Access.{get_register, push_word, get_turned, turned}
use Rattle.emit_instructions.specs.Computing.{set_code, moved_code, combined_with_code, joined_with_code, chosen_code, arithmetic_immediate_code, logical_immediate_code}
use Rattle.emit_simulation_laws.specs.Knowing.{IsKnown}
use Rattle.emit_simulation_laws.proofs.GuestFollows.CodeLaws.{CodeLaws}
use Rattle.emit_instructions_laws.specs.Instructions.{InstructionFollows}
use Rattle.emit_instructions_laws.proofs.InstructionLaws.Settings.{Setting, by-setting, Lies, Followed, Gives, word_in, word_in-word, register-pushed, word-pushed, turned-pushed}
use Rattle.emit_instructions_laws.proofs.InstructionLaws.Endings.{choice-put}
use Rattle.emit_instructions_laws.proofs.InstructionLaws.Combined.{moved-gives, combined-gives, less-gives}
use Rattle.emit_instructions_laws.proofs.InstructionLaws.Checked.{sum-done}
use Rattle.emit_instructions_laws.proofs.InstructionLaws.Words.{extended-word, turned-order, below-one}

module _ (laws : CodeLaws) (x : Setting) (rs rt w : ℕ) (below : rt < 32) (is : IsKnown x.known rs) (word : IsWord w) where
  abbrev value : ℕ
  value = word_in x rs

  set-done : (result : ℕ) → Lies x (set_code x.bank w rt) → w ≡ result → Gives x (set_code x.bank w rt) rt result
  set-done result lies same = moved-gives laws x rt below (push_word w) w result lies (word-pushed x w) word same

  combined-with-done : (name : IntArithmetic) → Lies x (combined_with_code x.bank name rs w rt)
      → Gives x (combined_with_code x.bank name rs w rt) rt (int_result name value w)
  combined-with-done name lies =
      combined-gives laws x rt below (get_register x.bank rs) (push_word w) value w (register-pushed x rs is) (word-pushed x w) name lies
      (word_in-word x rs is) word

  -- 0 on either side is left out
  module _ (name : IntArithmetic) (left : (a : ℕ) → IsWord a → a ≡ int_result name 0 a) (right : (a : ℕ) → IsWord a → a ≡ int_result name a 0) where
    abbrev moved_or_combined : Bool → List Step
    moved_or_combined c = if c then moved_code x.bank rs rt else combined_with_code x.bank name rs w rt

    moved-or-combined-done : (c : Bool) → (w == 0) ≡ c → Lies x (moved_or_combined c) → Gives x (moved_or_combined c) rt (int_result name value w)
    moved-or-combined-done true e lies =
        moved-gives laws x rt below (get_register x.bank rs) value (int_result name value w) lies (register-pushed x rs is) (word_in-word x rs is)
        (right value (word_in-word x rs is) ∙ ap (int_result name value) (sym (eqb-true w 0 e)))
    moved-or-combined-done false e lies = combined-with-done name lies

    joined-with-done : (b : Bool) → (rs == 0) ≡ b → Lies x (if b then set_code x.bank w rt else moved_or_combined (w == 0))
        → Gives x (if b then set_code x.bank w rt else moved_or_combined (w == 0)) rt (int_result name value w)
    joined-with-done true e lies =
        let zero_is : value ≡ 0 = ap (λ b. if b then 0 else x.state.registers rs) e in
        set-done (int_result name value w) lies (left w word ∙ ap (λ a. int_result name a w) (sym zero_is))
    joined-with-done false e lies = moved-or-combined-done (w == 0) refl lies

  sum-or-part-done : Lies x (joined_with_code x.bank Iadd rs w rt) → Gives x (joined_with_code x.bank Iadd rs w rt) rt (int_result Iadd value w)
  sum-or-part-done lies = joined-with-done Iadd (λ a small. omega arith) (λ a small. omega arith) (rs == 0) refl lies

  or-or-part-done : Lies x (joined_with_code x.bank Ior rs w rt) → Gives x (joined_with_code x.bank Ior rs w rt) rt (int_result Ior value w)
  or-or-part-done lies = joined-with-done Ior (λ a small. sym (or_zero_l a)) (λ a small. sym (or_zero_r a)) (rs == 0) refl lies

  slti-done : Lies x (get_register x.bank rs ∷ push_word w ∷ chosen_code x.bank IfIcmplt rt)
      → Gives x (get_register x.bank rs ∷ push_word w ∷ chosen_code x.bank IfIcmplt rt) rt (if int_lt (signed_of value) (signed_of w) then 1 else 0)
  slti-done lies = less-gives laws x rt below (get_register x.bank rs) (push_word w) value w (register-pushed x rs is) (word-pushed x w) _ lies refl

  abbrev by_sign : List Step
  by_sign = get_turned x.bank rs ++ push_word (turned w) ∷ chosen_code x.bank IfIcmplt rt

  -- 0 alone is below 1
  sltiu-done : (b : Bool) → (w == 1) ≡ b → Lies x (if b then get_register x.bank rs ∷ chosen_code x.bank Ifeq rt else by_sign)
      → Gives x (if b then get_register x.bank rs ∷ chosen_code x.bank Ifeq rt else by_sign) rt (if nat_lt value w then 1 else 0)
  sltiu-done true e lies =
      choice-put laws x (get_register x.bank rs ∷ chosen_code x.bank Ifeq rt) lies Ifeq (same_integer (signed_of value) (pos 0)) (nat_lt value w) rt 1
      (int value ∷ x.before.operands) below
      (below-one value (word_in-word x rs is) ∙ ap (nat_lt value) (sym (eqb-true w 1 e))) (lit≤ tt) refl
      (register-pushed x rs is (chosen_code x.bank Ifeq rt) x.before.operands _ refl)
  sltiu-done false e lies =
      choice-put laws x by_sign lies IfIcmplt (int_lt (signed_of (turned value)) (signed_of (turned w))) (nat_lt value w) rt 4
      (int (turned w) ∷ int (turned value) ∷ x.before.operands) below
      (turned-order value w (word_in-word x rs is) word) (lit≤ tt) refl
      (turned-pushed x rs (push_word (turned w) ∷ chosen_code x.bank IfIcmplt rt) x.before.operands _ is refl)

arithmetic-immediate-done : (laws : CodeLaws) (x : Setting) (name : ArithmeticImmediateName) (rs rt imm : ℕ) → rt < 32 → IsKnown x.known rs
    → imm < 2 ^ 16 → Lies x (arithmetic_immediate_code x.bank name rs rt imm x.state.pc (word_of (inst.ArithmeticImmediate name rs rt imm)))
    → Followed x (general rt ∷ []) (arithmetic_immediate_code x.bank name rs rt imm x.state.pc
    (word_of (inst.ArithmeticImmediate name rs rt imm))) (done (inst.ArithmeticImmediate name rs rt imm) x.state)
arithmetic-immediate-done laws x Addi rs rt imm below is small lies =
    sum-done laws x rt (word_of (inst.ArithmeticImmediate Addi rs rt imm)) below (get_register x.bank rs) (push_word (extended_imm imm))
    (word_in x rs) (extended_imm imm) (register-pushed x rs is) (word-pushed x (extended_imm imm)) (word_in-word x rs is) (extended-word imm small)
    lies
arithmetic-immediate-done laws x Addiu rs rt imm below is small lies =
    sum-or-part-done laws x rs rt (extended_imm imm) below is (extended-word imm small) lies
arithmetic-immediate-done laws x Slti rs rt imm below is small lies =
    slti-done laws x rs rt (extended_imm imm) below is (extended-word imm small) lies
arithmetic-immediate-done laws x Sltiu rs rt imm below is small lies =
    sltiu-done laws x rs rt (extended_imm imm) below is (extended-word imm small) (extended_imm imm == 1) refl lies

pub arithmetic-immediate-follows : CodeLaws → (name : ArithmeticImmediateName) (rs rt imm : ℕ)
    → InstructionFollows (inst.ArithmeticImmediate name rs rt imm)
arithmetic-immediate-follows laws name rs rt imm =
    by-setting (inst.ArithmeticImmediate name rs rt imm)
    (λ x fields lies reads. arithmetic-immediate-done laws x name rs rt imm fields.writes.0 reads.0 fields.immediate lies)

logical-immediate-done : (laws : CodeLaws) (x : Setting) (name : LogicalImmediateName) (rs rt imm : ℕ) → rt < 32 → IsKnown x.known rs → IsWord imm
    → Lies x (logical_immediate_code x.bank name rs rt imm)
    → Followed x (general rt ∷ []) (logical_immediate_code x.bank name rs rt imm) (done (inst.LogicalImmediate name rs rt imm) x.state)
logical-immediate-done laws x Andi rs rt imm below is word lies = combined-with-done laws x rs rt imm below is word Iand lies
logical-immediate-done laws x Ori rs rt imm below is word lies = or-or-part-done laws x rs rt imm below is word lies
logical-immediate-done laws x Xori rs rt imm below is word lies = combined-with-done laws x rs rt imm below is word Ixor lies

pub logical-immediate-follows : CodeLaws → (name : LogicalImmediateName) (rs rt imm : ℕ) → InstructionFollows (inst.LogicalImmediate name rs rt imm)
logical-immediate-follows laws name rs rt imm =
    by-setting (inst.LogicalImmediate name rs rt imm) (λ x fields lies reads.
    let small = fields.immediate in
    logical-immediate-done laws x name rs rt imm fields.writes.0 reads.0 (omega (arith, small)) lies)

pub load-upper-follows : CodeLaws → (rt imm : ℕ) → InstructionFollows (inst.LoadUpper rt imm)
load-upper-follows laws rt imm =
    by-setting (inst.LoadUpper rt imm) (λ x fields lies reads.
    let small = fields.immediate in
    moved-gives laws x rt fields.writes.0 (push_word (imm * 2 ^ 16)) (imm * 2 ^ 16) (imm * 2 ^ 16) lies (word-pushed x (imm * 2 ^ 16))
    (omega (arith, small)) refl)
