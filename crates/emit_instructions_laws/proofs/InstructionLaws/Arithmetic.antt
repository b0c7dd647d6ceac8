-- The instructions that compute from two registers.
use Rattle.std.proofs.Common.{◌≡◌, ℕ, ◌<◌, ◌==◌, nat_lt, int_lt, ◌-◌, ◌^◌, bit_or, Bool, true, false, if◌then◌else◌, List, [], ◌∷◌, ◌++◌, refl, ap, sym, ◌∙◌, arith, lit<, lit≤}
use Rattle.std.specs.Int.Bits.{or_zero_r}
use Rattle.run_definition.specs.Words.{IsWord, signed_of}
use Rattle.mips_decode.specs.Encoding.{word_of}
use Rattle.mips_definition.specs.declared.inst.Inst.TheVariants as inst
use Rattle.mips_definition.specs.declared.names.arithmetic_name.ArithmeticName.{ArithmeticName}
use Rattle.mips_definition.specs.declared.names.arithmetic_name.ArithmeticName.TheVariants.{Add, Addu, Sub, Subu, And, Or, Xor, Nor, Slt, Sltu}
use Rattle.delay_slots.specs.Turns.{done}
use Rattle.block_builder.specs.Registers.{general}
use Rattle.jvm_definition.specs.declared.branch_name.BranchName.TheVariants.{IfIcmplt, Ifne}
use Rattle.jvm_definition.specs.declared.int_arithmetic.IntArithmetic.{IntArithmetic}
use Rattle.jvm_definition.specs.declared.int_arithmetic.IntArithmetic.TheVariants.{Iadd, Isub, Iand, Ior, Ixor}
use Rattle.jvm_definition.specs.declared.value.Value.TheVariants.{Int as int}
use Rattle.jvm_definition.specs.Words.{int_result}
use Rattle.emit_steps.specs.declared.step.Step.{Step}
use Rattle.emit_instructions.specs.Access.{get_register, put_register, push_word, arithmetic, get_turned, turned}
use Rattle.emit_instructions.specs.Computing.{combined_or_moved_code, moved_code, combined_code, nor_code, sltu_code, chosen_code, arithmetic_code}
use Rattle.emit_simulation_laws.specs.Knowing.{IsKnown}
use Rattle.emit_simulation_laws.proofs.GuestFollows.CodeLaws.{CodeLaws}
use Rattle.emit_instructions_laws.specs.Instructions.{InstructionFollows}
use Rattle.emit_instructions_laws.proofs.InstructionLaws.Settings.{Setting, by-setting, Lies, Followed, Gives, word_in, word_in-word, register-pushed, turned-pushed}
use Rattle.emit_instructions_laws.proofs.InstructionLaws.Endings.{result-put, choice-put}
use Rattle.emit_instructions_laws.proofs.InstructionLaws.Combined.{moved-gives, combined-gives, less-gives}
use Rattle.emit_instructions_laws.proofs.InstructionLaws.Checked.{sum-done, difference-done}
use Rattle.emit_instructions_laws.proofs.InstructionLaws.Words.{int-result-word, nor-is, turned-order, above-zero}

module _ (laws : CodeLaws) (x : Setting) (rs rt rd : ℕ) (below : rd < 32) (is : IsKnown x.known rs) (it : IsKnown x.known rt) where
  combined-done : (name : IntArithmetic) → Lies x (combined_code x.bank name rs rt rd)
      → Gives x (combined_code x.bank name rs rt rd) rd (int_result name (word_in x rs) (word_in x rt))
  combined-done name lies =
      combined-gives laws x rd below (get_register x.bank rs) (get_register x.bank rt) (word_in x rs) (word_in x rt) (register-pushed x rs is)
      (register-pushed x rt it) name lies (word_in-word x rs is) (word_in-word x rt it)

  -- a sum with register 0 is a move
  combined-or-moved-done : (name : IntArithmetic) → ((a : ℕ) → IsWord a → a ≡ int_result name a 0)
      → Lies x (combined_or_moved_code x.bank name rs rt rd)
      → Gives x (combined_or_moved_code x.bank name rs rt rd) rd (int_result name (word_in x rs) (word_in x rt))
  combined-or-moved-done name neutral lies = by_test (rt == 0) refl lies
    where
      by_test : (b : Bool) → (rt == 0) ≡ b → Lies x (if b then moved_code x.bank rs rd else combined_code x.bank name rs rt rd)
          → Gives x (if b then moved_code x.bank rs rd else combined_code x.bank name rs rt rd) rd (int_result name (word_in x rs) (word_in x rt))
      by_test true e here =
          let word = word_in-word x rs is in
          let zero_is : word_in x rt ≡ 0 = ap (λ b. if b then 0 else x.state.registers rt) e in
          moved-gives laws x rd below (get_register x.bank rs) (word_in x rs) (int_result name (word_in x rs) (word_in x rt)) here
          (register-pushed x rs is) word
          (neutral (word_in x rs) word ∙ ap (int_result name (word_in x rs)) (sym zero_is))
      by_test false e here = combined-done name here

  nor-done : Lies x (nor_code x.bank rs rt rd) → Gives x (nor_code x.bank rs rt rd) rd (2 ^ 32 - 1 - bit_or (word_in x rs) (word_in x rt))
  nor-done lies =
      let a = word_in x rs in
      let b = word_in x rt in
      let word = int-result-word Ior a b (word_in-word x rs is) (word_in-word x rt it) in
      result-put laws x (nor_code x.bank rs rt rd) lies rd (int_result Ixor (bit_or a b) 0xFFFF_FFFF) (2 ^ 32 - 1 - bit_or a b) 5 below
      (int-result-word Ixor (bit_or a b) 0xFFFF_FFFF word (lit< tt)) (nor-is (bit_or a b) word) (lit≤ tt)
      (register-pushed x rs is
      (get_register x.bank rt ∷ arithmetic Ior ∷ push_word 0xFFFF_FFFF ∷ arithmetic Ixor ∷ put_register x.bank rd ∷ []) x.before.operands _
      (register-pushed x rt it (arithmetic Ior ∷ push_word 0xFFFF_FFFF ∷ arithmetic Ixor ∷ put_register x.bank rd ∷ []) (int a ∷ x.before.operands) _
      refl))

  abbrev by_sign : List Step
  by_sign = get_turned x.bank rs ++ get_turned x.bank rt ++ chosen_code x.bank IfIcmplt rd

  -- 0 is below each word but 0
  sltu-done : Lies x (sltu_code x.bank rs rt rd) → Gives x (sltu_code x.bank rs rt rd) rd (if nat_lt (word_in x rs) (word_in x rt) then 1 else 0)
  sltu-done lies = by_test (rs == 0) refl lies
    where
      by_test : (b : Bool) → (rs == 0) ≡ b → Lies x (if b then get_register x.bank rt ∷ chosen_code x.bank Ifne rd else by_sign)
          → Gives x (if b then get_register x.bank rt ∷ chosen_code x.bank Ifne rd else
          by_sign) rd (if nat_lt (word_in x rs) (word_in x rt) then 1 else 0)
      by_test true e here =
          let b = word_in x rt in
          let zero_is : word_in x rs ≡ 0 = ap (λ t. if t then 0 else x.state.registers rs) e in
          choice-put laws x (get_register x.bank rt ∷ chosen_code x.bank Ifne rd) here Ifne _ (nat_lt (word_in x rs) b) rd 1
          (int b ∷ x.before.operands) below
          (above-zero b (word_in-word x rt it) ∙ ap (λ a. nat_lt a b) (sym zero_is)) (lit≤ tt) refl
          (register-pushed x rt it (chosen_code x.bank Ifne rd) x.before.operands _ refl)
      by_test false e here =
          let a = word_in x rs in
          let b = word_in x rt in
          choice-put laws x by_sign here IfIcmplt (int_lt (signed_of (turned a)) (signed_of (turned b))) (nat_lt a b) rd 6
          (int (turned b) ∷ int (turned a) ∷ x.before.operands) below
          (turned-order a b (word_in-word x rs is) (word_in-word x rt it)) (lit≤ tt) refl
          (turned-pushed x rs (get_turned x.bank rt ++ chosen_code x.bank IfIcmplt rd) x.before.operands _ is
          (turned-pushed x rt (chosen_code x.bank IfIcmplt rd) (int (turned a) ∷ x.before.operands) _ it refl))

  arithmetic-done : (name : ArithmeticName) → Lies x (arithmetic_code x.bank name rs rt rd x.state.pc (word_of (inst.Arithmetic name rs rt rd)))
      → Followed x (general rd ∷ []) (arithmetic_code x.bank name rs rt rd x.state.pc
      (word_of (inst.Arithmetic name rs rt rd))) (done (inst.Arithmetic name rs rt rd) x.state)
  arithmetic-done Addu lies = combined-or-moved-done Iadd (λ a word. omega arith) lies
  arithmetic-done Or lies = combined-or-moved-done Ior (λ a word. sym (or_zero_r a)) lies
  arithmetic-done Subu lies = combined-done Isub lies
  arithmetic-done And lies = combined-done Iand lies
  arithmetic-done Xor lies = combined-done Ixor lies
  arithmetic-done Nor lies = nor-done lies
  arithmetic-done Sltu lies = sltu-done lies
  arithmetic-done Slt lies =
      less-gives laws x rd below (get_register x.bank rs) (get_register x.bank rt) (word_in x rs) (word_in x rt) (register-pushed x rs is)
      (register-pushed x rt it) _ lies refl
  arithmetic-done Add lies =
      sum-done laws x rd (word_of (inst.Arithmetic Add rs rt rd)) below (get_register x.bank rs) (get_register x.bank rt) (word_in x rs)
      (word_in x rt) (register-pushed x rs is) (register-pushed x rt it) (word_in-word x rs is) (word_in-word x rt it) lies
  arithmetic-done Sub lies =
      difference-done laws x rd (word_of (inst.Arithmetic Sub rs rt rd)) below (get_register x.bank rs) (get_register x.bank rt) (word_in x rs)
      (word_in x rt) (register-pushed x rs is) (register-pushed x rt it) (word_in-word x rs is) (word_in-word x rt it) lies

pub arithmetic-follows : CodeLaws → (name : ArithmeticName) (rs rt rd : ℕ) → InstructionFollows (inst.Arithmetic name rs rt rd)
arithmetic-follows laws name rs rt rd =
    by-setting (inst.Arithmetic name rs rt rd) (λ x fields lies reads. arithmetic-done laws x rs rt rd fields.writes.0 reads.0 reads.1.0 name lies)
