-- The turns of the machine through a block of the program, and through its end.
use Rattle.std.proofs.Common.{◌≡◌, ℕ, suc, ◌+◌, ◌*◌, ◌%◌, ◌^◌, ◌<◌, ◌≤◌, ◌==◌, ◌&&◌, nat_lt, if◌then◌else◌, true, slice_index, pos, Option, Some, None, refl, ap, ◌∙◌, arith}
use Rattle.std.specs.Prelude.{bit_and, bit_or, bit_xor}
use Rattle.std.proofs.lemmas.Bool.{eq-eqb, lt-ltb}
use Rattle.std.proofs.lemmas.Nat.{and_le_r, or_shifted}
use Rattle.run_definition.specs.Answer.{Answer}
use Rattle.run_definition.specs.Question.{Question}
use Rattle.run_definition.specs.Run.{run_of}
use Rattle.run_definition.specs.Turn.{Turn, moves}
use Rattle.run_definition.specs.declared.outcome.Outcome.TheVariants.{Exited}
use Rattle.run_definition.specs.Words.{signed_of}
use Rattle.mips_definition.specs.State.{State}
use Rattle.mips_definition.specs.Step.{effect, turn, turn_by}
use Rattle.mips_definition.specs.Table.{funct_of, imm_of, inst, op_of, rd_of, rs_of, rt_of, sa_of}
use Rattle.mips_definition.specs.Targets.{extended_imm}
use Rattle.mips_definition.specs.declared.inst.Inst.{Inst}
use Rattle.mips_definition.specs.declared.inst.Inst.TheVariants.{ArithmeticImmediate, JumpRegister, LoadUpper, LogicalImmediate, Syscall}
use Rattle.mips_definition.specs.declared.names.arithmetic_immediate_name.ArithmeticImmediateName.TheVariants.{Addiu}
use Rattle.mips_definition.specs.declared.names.logical_immediate_name.LogicalImmediateName.TheVariants.{Andi, Ori, Xori}
use Rattle.mips_decode.proofs.Rows.{by_fields, inst_is}
use Rattle.mips_decode.proofs.Steps.{turn-word}
use Rattle.command_translate.specs.MadeWords.{block_words, end_words, lower, upper}

-- ---- the instructions
inst_addiu : (half : ℕ) → half < 2 ^ 16 → inst (0x25080000 + half) ≡ ArithmeticImmediate Addiu 8 8 half
unfolding by_fields
inst_addiu half short =
    let w = 0x25080000 + half in
    let op : op_of w ≡ 9 = omega (arith, short) in
    let rs : rs_of w ≡ 8 = omega (arith, short) in
    let rt : rt_of w ≡ 8 = omega (arith, short) in
    let imm : imm_of w ≡ half = omega (arith, short) in
    inst_is w (omega (arith, short)) ∙ ap (λ o. by_fields o (funct_of w) (rs_of w) (rt_of w) (rd_of w) (sa_of w) w) op
    ∙ (λ i. ArithmeticImmediate Addiu (rs i) (rt i) (imm i))

inst_lui : (half : ℕ) → half < 2 ^ 16 → inst (0x3C090000 + half) ≡ LoadUpper 9 half
unfolding by_fields
inst_lui half short =
    let w = 0x3C090000 + half in
    let op : op_of w ≡ 15 = omega (arith, short) in
    let rs : rs_of w ≡ 0 = omega (arith, short) in
    let rt : rt_of w ≡ 9 = omega (arith, short) in
    let imm : imm_of w ≡ half = omega (arith, short) in
    inst_is w (omega (arith, short)) ∙ (λ i. by_fields (op i) (funct_of w) (rs i) (rt_of w) (rd_of w) (sa_of w) w) ∙ (λ i. LoadUpper (rt i) (imm i))

inst_ori : (half : ℕ) → half < 2 ^ 16 → inst (0x35290000 + half) ≡ LogicalImmediate Ori 9 9 half
unfolding by_fields
inst_ori half short =
    let w = 0x35290000 + half in
    let op : op_of w ≡ 13 = omega (arith, short) in
    let rs : rs_of w ≡ 9 = omega (arith, short) in
    let rt : rt_of w ≡ 9 = omega (arith, short) in
    let imm : imm_of w ≡ half = omega (arith, short) in
    inst_is w (omega (arith, short)) ∙ ap (λ o. by_fields o (funct_of w) (rs_of w) (rt_of w) (rd_of w) (sa_of w) w) op
    ∙ (λ i. LogicalImmediate Ori (rs i) (rt i) (imm i))

inst_xori : (half : ℕ) → half < 2 ^ 16 → inst (0x39080000 + half) ≡ LogicalImmediate Xori 8 8 half
unfolding by_fields
inst_xori half short =
    let w = 0x39080000 + half in
    let op : op_of w ≡ 14 = omega (arith, short) in
    let rs : rs_of w ≡ 8 = omega (arith, short) in
    let rt : rt_of w ≡ 8 = omega (arith, short) in
    let imm : imm_of w ≡ half = omega (arith, short) in
    inst_is w (omega (arith, short)) ∙ ap (λ o. by_fields o (funct_of w) (rs_of w) (rt_of w) (rd_of w) (sa_of w) w) op
    ∙ (λ i. LogicalImmediate Xori (rs i) (rt i) (imm i))

inst_jr : inst 0x01200008 ≡ JumpRegister 9
unfolding inst
inst_jr = refl

inst_andi : inst 0x3104007F ≡ LogicalImmediate Andi 8 4 127
unfolding inst
inst_andi = refl

inst_one : inst 0x24020001 ≡ ArithmeticImmediate Addiu 0 2 1
unfolding inst
inst_one = refl

inst_call : inst 0x0000000C ≡ Syscall 0
unfolding inst
inst_call = refl

-- ---- the machine, begun, at an address and with these registers; the rest of its state is that of the given one
abbrev pub stands : State → (ℕ → ℕ) → ℕ → Option ℕ → State
stands base r pc pending = record base { begun = true; registers = r; pc = pc; pending = pending }

abbrev put : (ℕ → ℕ) → ℕ → ℕ → ℕ → ℕ
put r n w = λ k. if nat_lt 0 n && k == n then w else r k

step : (base : State) (r : ℕ → ℕ) (pc word : ℕ) (pending : Option ℕ) (i : Inst) → pc % 4 ≡ 0 → base.code pc ≡ Some word → inst word ≡ i
    → turn (stands base r pc pending) ≡ turn_by (effect i word (stands base r pc pending)) word (stands base r pc pending)
step base r pc word pending i even there is =
    let s = stands base r pc pending in
    turn-word s word refl (eq-eqb (pc % 4) 0 even) there ∙ ap (λ i. turn_by (effect i word s) word s) is

moved : {K : Type 0} (reply : K → Question → Option (Answer × K)) (n : ℕ) (s t : State) (k : K) → turn s ≡ moves t
    → run_of turn reply (suc n) s k ≡ run_of turn reply n t k
moved reply n s t k is = rw (run_of, is) refl

to_next : (base : State) (r : ℕ → ℕ) (pc next : ℕ) (pending : Option ℕ) → pc + 4 ≡ next → next < 2 ^ 32
    → ◌≡◌ {A = Turn State} (moves (stands base r ((pc + 4) % 2 ^ 32) pending)) (moves (stands base r next pending))
to_next base r pc next pending is low =
    let here : (pc + 4) % 2 ^ 32 ≡ next = omega (arith, is, low) in
    ap (λ p. moves (stands base r p pending)) here

module _ {K : Type 0} (reply : K → Question → Option (Answer × K)) (base : State) where
  -- through a block, of which the last word is not reached
  pub through_block : (pc target x : ℕ) (r : ℕ → ℕ) (n : ℕ) (k : K) → pc % 4 ≡ 0 → pc + 24 < 2 ^ 32 → target < 2 ^ 32 → x < 2 ^ 32
      → ((i at : ℕ) → i < 5 → at ≡ pc + 4 * i → base.code at ≡ Some (slice_index (block_words target x) i))
      → (r' : ℕ → ℕ) × (run_of turn reply (suc (suc (suc (suc (suc n))))) (stands base r pc None) k ≡ run_of turn reply n (stands base r' target None) k)
  through_block pc target x r n k even low far small words =
      let a = put r 8 ((r 8 + extended_imm (upper x)) % 2 ^ 32) in
      let b = put a 9 (upper target * 2 ^ 16) in
      let c = put b 9 (bit_or (upper target * 2 ^ 16) (lower target)) in
      let d = put c 8 (bit_xor (c 8) (lower x)) in
      let whole : bit_or (upper target * 2 ^ 16) (lower target) ≡ target = or_shifted (upper target) 16 (lower target) (omega arith) ∙ omega arith in
      let first = step base r pc (0x25080000 + upper x) None (ArithmeticImmediate Addiu 8 8 (upper x)) even
      (words 0 pc (omega arith) (omega arith)) (inst_addiu (upper x) (omega (arith, small)))
      ∙ to_next base a pc (pc + 4) None refl (omega (arith, low)) in
      let second = step base a (pc + 4) (0x3C090000 + upper target) None (LoadUpper 9 (upper target)) (omega (arith, even))
      (words 1 (pc + 4) (omega arith) (omega arith)) (inst_lui (upper target) (omega (arith, far)))
      ∙ to_next base b (pc + 4) (pc + 8) None (omega arith) (omega (arith, low)) in
      let third = step base b (pc + 8) (0x35290000 + lower target) None (LogicalImmediate Ori 9 9 (lower target)) (omega (arith, even))
      (words 2 (pc + 8) (omega arith) (omega arith)) (inst_ori (lower target) (omega arith))
      ∙ to_next base c (pc + 8) (pc + 12) None (omega arith) (omega (arith, low)) in
      let fourth = step base c (pc + 12) 0x01200008 None (JumpRegister 9) (omega (arith, even)) (words 3 (pc + 12) (omega arith) (omega arith)) inst_jr
      ∙ to_next base c (pc + 12) (pc + 16) (Some (bit_or (upper target * 2 ^ 16) (lower target))) (omega arith) (omega (arith, low))
      ∙ ap (λ t. moves (stands base c (pc + 16) (Some t))) whole in
      let fifth = step base c (pc + 16) (0x39080000 + lower x) (Some target) (LogicalImmediate Xori 8 8 (lower x)) (omega (arith, even))
      (words 4 (pc + 16) (omega arith) (omega arith)) (inst_xori (lower x) (omega arith)) in (
        d,
        moved reply (suc (suc (suc (suc n)))) (stands base r pc None) (stands base a (pc + 4) None) k first
            ∙ moved reply (suc (suc (suc n))) (stands base a (pc + 4) None) (stands base b (pc + 8) None) k second
            ∙ moved reply (suc (suc n)) (stands base b (pc + 8) None) (stands base c (pc + 12) None) k third
            ∙ moved reply (suc n) (stands base c (pc + 12) None) (stands base c (pc + 16) (Some target)) k fourth
            ∙ moved reply n (stands base c (pc + 16) (Some target)) (stands base d target None) k fifth,
      )

  -- through the end
  pub at_end : (pc : ℕ) (r : ℕ → ℕ) (k : K) → pc % 4 ≡ 0 → pc + 12 < 2 ^ 32
      → ((i at : ℕ) → i < 3 → at ≡ pc + 4 * i → base.code at ≡ Some (slice_index end_words i))
      → (status : ℕ) × (status ≤ 127) × ((run_of turn reply 3 (stands base r pc None) k).outcome ≡ Exited (pos status))
  at_end pc r k even low words =
      let a = put r 4 (bit_and (r 8) 127) in
      let b = put a 2 1 in
      let status = bit_and (r 8) 127 in
      let few : status ≤ 127 = and_le_r (r 8) 127 in
      let plain : signed_of status ≡ pos status = rw (lt-ltb status (2 ^ 31) (omega (arith, few))) refl in
      let first = step base r pc 0x3104007F None (LogicalImmediate Andi 8 4 127) even (words 0 pc (omega arith) (omega arith)) inst_andi
      ∙ to_next base a pc (pc + 4) None refl (omega (arith, low)) in
      let second = step base a (pc + 4) 0x24020001 None (ArithmeticImmediate Addiu 0 2 1) (omega (arith, even))
      (words 1 (pc + 4) (omega arith) (omega arith)) inst_one
      ∙ to_next base b (pc + 4) (pc + 8) None (omega arith) (omega (arith, low)) in
      let third = step base b (pc + 8) 0x0000000C None (Syscall 0) (omega (arith, even)) (words 2 (pc + 8) (omega arith) (omega arith)) inst_call in (
        status,
        few,
        ap (λ run. run.outcome) (moved reply 2 (stands base r pc None) (stands base a (pc + 4) None) k first
            ∙ moved reply 1 (stands base a (pc + 4) None) (stands base b (pc + 8) None) k second)
            ∙ rw third (ap (λ z. Exited z) plain),
      )
