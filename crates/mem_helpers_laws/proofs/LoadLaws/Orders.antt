-- A word's bytes turned round, and the word in the guest's order.
use Rattle.std.proofs.Common.{◌≡◌, ℕ, ◌+◌, ◌*◌, ◌/◌, ◌%◌, ◌^◌, ◌<◌, ◌==◌, if◌then◌else◌, bit_and, bit_or, List, [], ◌∷◌, ◌++◌, refl, ap, ◌∙◌, arith}
use Rattle.std.proofs.lemmas.Bool.{eq-eqb}
use Rattle.std.proofs.lemmas.Nat.{or_comm, or_shifted}
use Rattle.std.proofs.lemmas.Nat.Bits.{and_high}
use Rattle.run_definition.specs.Words.{IsWord, lane_of_word, word_of_bytes}
use Rattle.run_definition.specs.declared.order.Order.{Order}
use Rattle.run_definition.specs.declared.order.Order.TheVariants.{Big, Little}
use Rattle.mips_definition.specs.Memory.{word_of_lanes}
use Rattle.jvm_definition.specs.declared.int_arithmetic.IntArithmetic.TheVariants.{Iand, Ior}
use Rattle.jvm_definition.specs.declared.int_shift.IntShift.TheVariants.{Ishl, Iushr}
use Rattle.jvm_definition.specs.declared.value.Value.{Value}
use Rattle.jvm_definition.specs.declared.value.Value.TheVariants.{Int as int}
use Rattle.jvm_definition.specs.Program.{Program}
use Rattle.jvm_definition.specs.Values.{Heap}
use Rattle.jvm_definition.specs.declared.local_kind.LocalKind.TheVariants as local_kinds
use Rattle.jvm_definition.specs.declared.instruction.Instruction.TheVariants as instructions
use Rattle.emit_steps.specs.declared.step.Step.{Step}
use Rattle.emit_steps.specs.Outcomes.{Outcome, outcome, later}
use Rattle.emit_steps.specs.declared.step.Step.TheVariants.{Does}
use Rattle.emit_instructions.specs.Access.{push_word, arithmetic}
use Rattle.mem_helpers.specs.Parts.{load, shift, reversed_code, ordered_code}
use Rattle.mem_helpers_laws.proofs.LoadLaws.Coming.{laters}
use Rattle.mem_helpers_laws.proofs.LoadLaws.Widths.{over_all}

-- ---- the bits

-- what the code computes
abbrev mixed : ℕ → ℕ
mixed v = bit_or (bit_or (bit_or (v / 2 ^ 24) (bit_and (v / 2 ^ 8) 0xFF00)) (bit_and v 0xFF00 * 2 ^ 8 % 2 ^ 32)) (v * 2 ^ 24 % 2 ^ 32)

joined : (low k high : ℕ) → low < 2 ^ k → bit_or low (high * 2 ^ k) ≡ high * 2 ^ k + low
joined low k high h = or_comm low (high * 2 ^ k) ∙ or_shifted high k low h

pub mixed-is : (v : ℕ) → IsWord v → mixed v ≡ word_of_bytes (lane_of_word v 3) (lane_of_word v 2) (lane_of_word v 1) (lane_of_word v 0)
mixed-is v word =
    let a = v / 2 ^ 24 in
    let b = v / 2 ^ 8 / 2 ^ 8 % 2 ^ 8 in
    let c = v / 2 ^ 8 % 2 ^ 8 in
    let d = v % 2 ^ 8 in
    let second : bit_and (v / 2 ^ 8) 0xFF00 ≡ b * 2 ^ 8 = and_high (v / 2 ^ 8) 8 8 in
    let middle : bit_and v 0xFF00 ≡ c * 2 ^ 8 = and_high v 8 8 in
    let third : bit_and v 0xFF00 * 2 ^ 8 % 2 ^ 32 ≡ c * 2 ^ 16 = omega arith in
    let fourth : v * 2 ^ 24 % 2 ^ 32 ≡ d * 2 ^ 24 = omega arith in
    let one : bit_or a (b * 2 ^ 8) ≡ b * 2 ^ 8 + a = joined a 8 b (omega arith) in
    let two : bit_or (b * 2 ^ 8 + a) (c * 2 ^ 16) ≡ c * 2 ^ 16 + (b * 2 ^ 8 + a) = joined (b * 2 ^ 8 + a) 16 c (omega arith) in
    let three : bit_or (c * 2 ^ 16 + (b * 2 ^ 8 + a)) (d * 2 ^ 24) ≡ d * 2 ^ 24 + (c * 2 ^ 16 + (b * 2 ^ 8 + a)) = joined (c * 2 ^ 16 + (b * 2 ^ 8 + a)) 24 d (omega arith) in
    ap (λ x. bit_or (bit_or (bit_or a x) (bit_and v 0xFF00 * 2 ^ 8 % 2 ^ 32)) (v * 2 ^ 24 % 2 ^ 32)) second
    ∙ ap (λ x. bit_or (bit_or x (bit_and v 0xFF00 * 2 ^ 8 % 2 ^ 32)) (v * 2 ^ 24 % 2 ^ 32)) one
    ∙ ap (λ x. bit_or (bit_or (b * 2 ^ 8 + a) x) (v * 2 ^ 24 % 2 ^ 32)) third
    ∙ ap (λ x. bit_or x (v * 2 ^ 24 % 2 ^ 32)) two
    ∙ ap (λ x. bit_or (c * 2 ^ 16 + (b * 2 ^ 8 + a)) x) fourth
    ∙ three
    ∙ omega arith

-- ---- the code

-- how many instructions turn a word into an order
abbrev pub turns_to : Order → ℕ
turns_to Big = 0
turns_to Little = 20

-- the local variables behind that
abbrev pub turned_locals : Order → ℕ → ℕ → (ℕ → Value) → ℕ → Value
turned_locals Big free v locals = locals
turned_locals Little free v locals = λ k. if k == free then int v else locals k

module _ (program : Program) (words i v : ℕ) (locals : ℕ → Value) (fields : ℕ → Value) (heap : Heap) (is : locals i ≡ int v) where
  -- the outcome with these operands
  abbrev with_stack : List Step → List Value → Outcome
  with_stack code operands = outcome program words code (over_all locals operands fields heap)

  first-byte : (rest : List Step) (operands : List Value) → with_stack (load i ∷ push_word 24 ∷ shift Iushr ∷ rest) operands ≡ laters 3 (with_stack rest (int (v / 2 ^ 24) ∷ operands))
  first-byte rest operands = simp is refl

  second-byte : (rest : List Step) (x : ℕ) (operands : List Value) → with_stack (load i ∷ push_word 8 ∷ shift Iushr ∷ push_word 0xFF00 ∷ arithmetic Iand ∷ arithmetic Ior ∷ rest) (int x ∷ operands) ≡ laters 6 (with_stack rest (int (bit_or x (bit_and (v / 2 ^ 8) 0xFF00)) ∷ operands))
  second-byte rest x operands = simp is refl

  third-byte : (rest : List Step) (x : ℕ) (operands : List Value) → with_stack (load i ∷ push_word 0xFF00 ∷ arithmetic Iand ∷ push_word 8 ∷ shift Ishl ∷ arithmetic Ior ∷ rest) (int x ∷ operands) ≡ laters 6 (with_stack rest (int (bit_or x (bit_and v 0xFF00 * 2 ^ 8 % 2 ^ 32)) ∷ operands))
  third-byte rest x operands = simp is refl

  fourth-byte : (rest : List Step) (x : ℕ) (operands : List Value) → with_stack (load i ∷ push_word 24 ∷ shift Ishl ∷ arithmetic Ior ∷ rest) (int x ∷ operands) ≡ laters 4 (with_stack rest (int (bit_or x (v * 2 ^ 24 % 2 ^ 32)) ∷ operands))
  fourth-byte rest x operands = simp is refl

  pub reverses : (rest : List Step) (operands : List Value) → IsWord v → with_stack (reversed_code i ++ rest) operands ≡ laters 19 (with_stack rest (int (word_of_lanes Little v) ∷ operands))
  reverses rest operands word =
      let fourth = load i ∷ push_word 24 ∷ shift Ishl ∷ arithmetic Ior ∷ rest in
      let third = load i ∷ push_word 0xFF00 ∷ arithmetic Iand ∷ push_word 8 ∷ shift Ishl ∷ arithmetic Ior ∷ fourth in
      let second = load i ∷ push_word 8 ∷ shift Iushr ∷ push_word 0xFF00 ∷ arithmetic Iand ∷ arithmetic Ior ∷ third in
      let a = v / 2 ^ 24 in
      let b = bit_or a (bit_and (v / 2 ^ 8) 0xFF00) in
      let c = bit_or b (bit_and v 0xFF00 * 2 ^ 8 % 2 ^ 32) in
      first-byte second operands
      ∙ ap (laters 3) (second-byte third a operands)
      ∙ ap (laters 9) (third-byte fourth b operands)
      ∙ ap (laters 15) (fourth-byte rest c operands)
      ∙ ap (λ n. laters 19 (with_stack rest (int n ∷ operands))) (mixed-is v word)

-- the word on the stack in an order
module _ (program : Program) (words : ℕ) (locals : ℕ → Value) (fields : ℕ → Value) (heap : Heap) where
  put-away : (free v : ℕ) (code : List Step) → outcome program words (Does (instructions.Store local_kinds.Int free) ∷ code) (over_all locals (int v ∷ []) fields heap) ≡ later (outcome program words code (over_all (turned_locals Little free v locals) [] fields heap))
  put-away free v code = refl

  pub ordered : (order : Order) (free v : ℕ) (rest : List Step) → IsWord v → outcome program words (ordered_code order free ++ rest) (over_all locals (int v ∷ []) fields heap) ≡ laters (turns_to order) (outcome program words rest (over_all (turned_locals order free v locals) (int (word_of_lanes order v) ∷ []) fields heap))
  ordered Big free v rest word = refl
  ordered Little free v rest word =
      put-away free v (reversed_code free ++ rest)
      ∙ ap later (reverses program words free v (turned_locals Little free v locals) fields heap (ap (λ b. if b then int v else locals free) (eq-eqb free free refl)) rest [] word)
