-- Traps: what is compared, the test that passes them over, and the fault.
use Rattle.std.proofs.Common.{◌≡◌, ℕ, ◌^◌, ◌<◌, ◌≤◌, ◌==◌, nat_le, int_lt, Bool, true, false, not, List, [], ◌∷◌, ◌++◌, refl, ap, ◌∙◌, lit≤}
use Rattle.run_definition.specs.Words.{IsWord, signed_of}
use Rattle.mips_decode.specs.Encoding.{word_of}
use Rattle.mips_definition.specs.Targets.{extended_imm}
use Rattle.mips_definition.specs.Traps.{trap_by, trap_holds, trap_immediate_effect}
use Rattle.mips_definition.specs.declared.inst.Inst.TheVariants as inst
use Rattle.mips_definition.specs.declared.names.trap_name.TrapName.{TrapName}
use Rattle.mips_definition.specs.declared.names.trap_name.TrapName.TheVariants.{Tge, Tgeu, Tlt, Tltu, Teq, Tne}
use Rattle.mips_definition.specs.declared.names.trap_immediate_name.TrapImmediateName.{TrapImmediateName}
use Rattle.mips_definition.specs.declared.names.trap_immediate_name.TrapImmediateName.TheVariants.{Tgei, Tgeiu, Tlti, Tltiu, Teqi, Tnei}
use Rattle.delay_slots.specs.Turns.{done_by}
use Rattle.jvm_definition.specs.declared.branch_name.BranchName.{BranchName}
use Rattle.jvm_definition.specs.declared.branch_name.BranchName.TheVariants.{IfIcmpeq, IfIcmpne, IfIcmplt, IfIcmpge}
use Rattle.jvm_definition.specs.declared.value.Value.TheVariants.{Int as int}
use Rattle.jvm_definition.specs.Effect.{same_integer}
use Rattle.emit_steps.specs.declared.step.Step.{Step}
use Rattle.emit_instructions.specs.Access.{get_register, push_word, get_turned, turned}
use Rattle.emit_instructions.specs.Faulting.{unless_code, pushed_pair, turned_pair, trap_code, trap_with_code}
use Rattle.emit_simulation_laws.specs.Knowing.{IsKnown}
use Rattle.emit_simulation_laws.proofs.Signs.{same-signed}
use Rattle.emit_simulation_laws.proofs.GuestFollows.CodeLaws.{CodeLaws}
use Rattle.emit_instructions_laws.specs.Instructions.{InstructionFollows}
use Rattle.emit_instructions_laws.proofs.InstructionLaws.Settings.{Setting, by-setting, Lies, Followed, Leads, word_in, word_in-word, register-pushed, turned-pushed}
use Rattle.emit_instructions_laws.proofs.InstructionLaws.Endings.{trap-done}
use Rattle.emit_instructions_laws.proofs.InstructionLaws.Words.{turned-order, not-below, not-below_nat, extended-word}

-- ---- what is compared

-- a front of code puts two words on the operands, whatever is behind it
abbrev Pushes : Setting → List Step → ℕ → ℕ → ℕ → Type 0
Pushes x front k a b = (rest : List Step) → Leads x (front ++ rest) rest k (int b ∷ int a ∷ x.before.operands)

module _ (x : Setting) (rs : ℕ) (is : IsKnown x.known rs) where
  with-register : (rt : ℕ) → IsKnown x.known rt → Pushes x (pushed_pair x.bank rs rt) 2 (word_in x rs) (word_in x rt)
  with-register rt it = λ rest.
      register-pushed x rs is (get_register x.bank rt ∷ rest) x.before.operands _
      (register-pushed x rt it rest (int (word_in x rs) ∷ x.before.operands) _ refl)

  with-register_turned : (rt : ℕ) → IsKnown x.known rt → Pushes x (turned_pair x.bank rs rt) 6 (turned (word_in x rs)) (turned (word_in x rt))
  with-register_turned rt it = λ rest.
      turned-pushed x rs (get_turned x.bank rt ++ rest) x.before.operands _ is
      (turned-pushed x rt rest (int (turned (word_in x rs)) ∷ x.before.operands) _ it refl)

  with-word : (w : ℕ) → Pushes x (get_register x.bank rs ∷ push_word w ∷ []) 2 (word_in x rs) w
  with-word w = λ rest. register-pushed x rs is (push_word w ∷ rest) x.before.operands _ refl

  with-word_turned : (w : ℕ) → Pushes x (get_turned x.bank rs ++ push_word w ∷ []) 4 (turned (word_in x rs)) w
  with-word_turned w = λ rest. turned-pushed x rs (push_word w ∷ rest) x.before.operands _ is refl

-- ---- the tests

not-not : (b : Bool) → not (not b) ≡ b
not-not true = refl
not-not false = refl

module _ (laws : CodeLaws) (x : Setting) (word : ℕ) (front : List Step) (k a b : ℕ) (few : k ≤ 50) (pushes : Pushes x front k a b) where
  abbrev trapping : BranchName → List Step
  trapping test = front ++ unless_code test x.state.pc word

  abbrev Traps : BranchName → Bool → Type 0
  Traps test holds = Lies x (trapping test) → Followed x [] (trapping test) (done_by (trap_by holds word x.state) x.state)

  abbrev less : Bool
  less = int_lt (signed_of a) (signed_of b)

  at-least : (holds : Bool) → not less ≡ holds → Traps IfIcmplt holds
  at-least holds is lies =
      trap-done laws x (trapping IfIcmplt) lies IfIcmplt less holds k word (int b ∷ int a ∷ x.before.operands) is few refl
      (pushes (unless_code IfIcmplt x.state.pc word))

  below : (holds : Bool) → less ≡ holds → Traps IfIcmpge holds
  below holds is lies =
      trap-done laws x (trapping IfIcmpge) lies IfIcmpge (not less) holds k word (int b ∷ int a ∷ x.before.operands) (not-not less ∙ is) few refl
      (pushes (unless_code IfIcmpge x.state.pc word))

  module _ (word_a : IsWord a) (word_b : IsWord b) where
    equal : Traps IfIcmpne (a == b)
    equal lies =
        trap-done laws x (trapping IfIcmpne) lies IfIcmpne (not (same_integer (signed_of a) (signed_of b))) (a == b) k word
        (int b ∷ int a ∷ x.before.operands) (not-not (same_integer (signed_of a) (signed_of b)) ∙ same-signed a b word_a word_b) few refl
        (pushes (unless_code IfIcmpne x.state.pc word))

    unequal : Traps IfIcmpeq (not (a == b))
    unequal lies =
        trap-done laws x (trapping IfIcmpeq) lies IfIcmpeq (same_integer (signed_of a) (signed_of b)) (not (a == b)) k word
        (int b ∷ int a ∷ x.before.operands) (ap not (same-signed a b word_a word_b)) few refl (pushes (unless_code IfIcmpeq x.state.pc word))

-- words whose top bits are turned are compared without signs
not-below_turned : (a b : ℕ) → IsWord a → IsWord b → not (int_lt (signed_of (turned a)) (signed_of (turned b))) ≡ nat_le b a
not-below_turned a b word_a word_b = ap not (turned-order a b word_a word_b) ∙ not-below_nat a b

-- ---- by the instructions' names

trap-of-registers : (laws : CodeLaws) (x : Setting) (name : TrapName) (rs rt word : ℕ) → IsKnown x.known rs → IsKnown x.known rt
    → Lies x (trap_code x.bank name rs rt x.state.pc word)
    → Followed x [] (trap_code x.bank name rs rt x.state.pc word) (done_by (trap_by (trap_holds name (word_in x rs) (word_in x rt)) word x.state)
    x.state)
trap-of-registers laws x Tge rs rt word is it lies =
    at-least laws x word (pushed_pair x.bank rs rt) 2 (word_in x rs) (word_in x rt) (lit≤ tt) (with-register x rs is rt it) _
    (not-below (signed_of (word_in x rs)) (signed_of (word_in x rt))) lies
trap-of-registers laws x Tgeu rs rt word is it lies =
    at-least laws x word (turned_pair x.bank rs rt) 6 (turned (word_in x rs)) (turned (word_in x rt)) (lit≤ tt) (with-register_turned x rs is rt it) _
    (not-below_turned (word_in x rs) (word_in x rt) (word_in-word x rs is) (word_in-word x rt it)) lies
trap-of-registers laws x Tlt rs rt word is it lies =
    below laws x word (pushed_pair x.bank rs rt) 2 (word_in x rs) (word_in x rt) (lit≤ tt) (with-register x rs is rt it) _ refl lies
trap-of-registers laws x Tltu rs rt word is it lies =
    below laws x word (turned_pair x.bank rs rt) 6 (turned (word_in x rs)) (turned (word_in x rt)) (lit≤ tt) (with-register_turned x rs is rt it) _
    (turned-order (word_in x rs) (word_in x rt) (word_in-word x rs is) (word_in-word x rt it)) lies
trap-of-registers laws x Teq rs rt word is it lies =
    equal laws x word (pushed_pair x.bank rs rt) 2 (word_in x rs) (word_in x rt) (lit≤ tt) (with-register x rs is rt it) (word_in-word x rs is)
    (word_in-word x rt it) lies
trap-of-registers laws x Tne rs rt word is it lies =
    unequal laws x word (pushed_pair x.bank rs rt) 2 (word_in x rs) (word_in x rt) (lit≤ tt) (with-register x rs is rt it) (word_in-word x rs is)
    (word_in-word x rt it) lies

pub trap-follows : CodeLaws → (name : TrapName) (rs rt code : ℕ) → InstructionFollows (inst.Trap name rs rt code)
trap-follows laws name rs rt code =
    by-setting (inst.Trap name rs rt code)
    (λ x fields lies reads. trap-of-registers laws x name rs rt (word_of (inst.Trap name rs rt code)) reads.0 reads.1.0 lies)

trap-with-word : (laws : CodeLaws) (x : Setting) (name : TrapImmediateName) (rs imm word : ℕ) → IsKnown x.known rs → imm < 2 ^ 16
    → Lies x (trap_with_code x.bank name rs (extended_imm imm) x.state.pc word)
    → Followed x [] (trap_with_code x.bank name rs (extended_imm imm) x.state.pc
    word) (done_by (trap_immediate_effect name word x.state rs imm) x.state)
trap-with-word laws x Tgei rs imm word is small lies =
    at-least laws x word (get_register x.bank rs ∷ push_word (extended_imm imm) ∷ []) 2 (word_in x rs) (extended_imm imm) (lit≤ tt)
    (with-word x rs is (extended_imm imm)) _ (not-below (signed_of (word_in x rs)) (signed_of (extended_imm imm))) lies
trap-with-word laws x Tgeiu rs imm word is small lies =
    at-least laws x word (get_turned x.bank rs ++ push_word (turned (extended_imm imm)) ∷ []) 4 (turned (word_in x rs)) (turned (extended_imm imm))
    (lit≤ tt) (with-word_turned x rs is (turned (extended_imm imm))) _
    (not-below_turned (word_in x rs) (extended_imm imm) (word_in-word x rs is) (extended-word imm small)) lies
trap-with-word laws x Tlti rs imm word is small lies =
    below laws x word (get_register x.bank rs ∷ push_word (extended_imm imm) ∷ []) 2 (word_in x rs) (extended_imm imm) (lit≤ tt)
    (with-word x rs is (extended_imm imm)) _ refl lies
trap-with-word laws x Tltiu rs imm word is small lies =
    below laws x word (get_turned x.bank rs ++ push_word (turned (extended_imm imm)) ∷ []) 4 (turned (word_in x rs)) (turned (extended_imm imm))
    (lit≤ tt) (with-word_turned x rs is (turned (extended_imm imm))) _
    (turned-order (word_in x rs) (extended_imm imm) (word_in-word x rs is) (extended-word imm small)) lies
trap-with-word laws x Teqi rs imm word is small lies =
    equal laws x word (get_register x.bank rs ∷ push_word (extended_imm imm) ∷ []) 2 (word_in x rs) (extended_imm imm) (lit≤ tt)
    (with-word x rs is (extended_imm imm)) (word_in-word x rs is) (extended-word imm small) lies
trap-with-word laws x Tnei rs imm word is small lies =
    unequal laws x word (get_register x.bank rs ∷ push_word (extended_imm imm) ∷ []) 2 (word_in x rs) (extended_imm imm) (lit≤ tt)
    (with-word x rs is (extended_imm imm)) (word_in-word x rs is) (extended-word imm small) lies

pub trap-immediate-follows : CodeLaws → (name : TrapImmediateName) (rs imm : ℕ) → InstructionFollows (inst.TrapImmediate name rs imm)
trap-immediate-follows laws name rs imm =
    by-setting (inst.TrapImmediate name rs imm)
    (λ x fields lies reads. trap-with-word laws x name rs imm (word_of (inst.TrapImmediate name rs imm)) reads.0 fields.immediate lies)
