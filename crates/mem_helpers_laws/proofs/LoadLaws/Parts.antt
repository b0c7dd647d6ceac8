-- LWL and LWR by their methods.
use Rattle.std.proofs.Common.{◌≡◌, ℕ, ◌*◌, ◌%◌, ◌^◌, ◌<◌, ◌≤◌, bit_and, bit_or, bit_xor, true, List, [], ◌∷◌, ◌++◌, is_none, refl, ap, sym, ◌∙◌, arith, lit≤, append_assoc}
use Rattle.std.proofs.lemmas.Bool.{eq-eqb}
use Rattle.run_definition.specs.Words.{IsWord}
use Rattle.run_definition.specs.declared.order.Order.{Order}
use Rattle.run_definition.specs.declared.order.Order.TheVariants.{Big, Little}
use Rattle.run_definition.specs.Memory.{Memory}
use Rattle.mips_definition.specs.Memory as guest
use Rattle.mips_definition.specs.Memory.{merged, left_part, right_part}
use Rattle.mips_definition.specs.declared.names.load_name.LoadName.TheVariants.{Lwl, Lwr}
use Rattle.jvm_definition.specs.declared.int_arithmetic.IntArithmetic.TheVariants.{Iand, Ior, Ixor}
use Rattle.jvm_definition.specs.declared.int_shift.IntShift.{IntShift}
use Rattle.jvm_definition.specs.declared.int_shift.IntShift.TheVariants.{Ishl, Iushr}
use Rattle.jvm_definition.specs.declared.value.Value.{Value}
use Rattle.jvm_definition.specs.declared.value.Value.TheVariants.{Int as int}
use Rattle.jvm_definition.specs.Program.{Program}
use Rattle.jvm_definition.specs.Values.{Heap}
use Rattle.jvm_definition.specs.Words.{int_shifted}
use Rattle.jvm_definition.specs.Effect.{Workspace}
use Rattle.jvm_definition_laws.specs.Stretch.{body_workspace}
use Rattle.emit_steps.specs.declared.step.Step.{Step}
use Rattle.emit_steps.specs.Outcomes.{Outcome, outcome}
use Rattle.emit_instructions.specs.Access.{push_word, arithmetic}
use Rattle.mem_helpers.specs.declared.amount.Amount.{Amount}
use Rattle.mem_helpers.specs.declared.amount.Amount.TheVariants.{Forward, Backward}
use Rattle.mem_helpers.specs.Parts.{load, shift, amount_code, left_amount, right_amount, ordered_code}
use Rattle.mem_helpers.specs.Loads.{gives, loading, kept_code}
use Rattle.mem_helpers_laws.specs.Loading.{LoadsAs, LoadsByName}
use Rattle.mem_helpers_laws.proofs.LoadLaws.Coming.{laters}
use Rattle.mem_helpers_laws.proofs.LoadLaws.Widths.{over_all, one_byte}
use Rattle.mem_helpers_laws.proofs.LoadLaws.Accessing.{IsCalled, IsWordAt, Ends, loads-as}
use Rattle.mem_helpers_laws.proofs.LoadLaws.Orders.{turned_locals}
use Rattle.mem_helpers_laws.proofs.LoadLaws.Ending.{Ends-returned, Ends-after, Ends-ordered}
use Rattle.mem_helpers_laws.proofs.LoadLaws.Lanes.{forward-is, backward-is}
use Rattle.mem_helpers_laws.proofs.LoadLaws.Merging.{left_mixed, right_mixed, left_out, right_out, left-mixed, right-mixed, left-merged, right-merged, IsWord-ordered}

-- ---- the code

-- the count of a shift
abbrev amount_at : Amount → ℕ → ℕ
amount_at Forward a = a * 2 ^ 3 % 2 ^ 32
amount_at Backward a = bit_xor a 3 * 2 ^ 3 % 2 ^ 32

abbrev amount_turns : Amount → ℕ
amount_turns Forward = 4
amount_turns Backward = 6

-- what is kept is cut out of the old word
abbrev kept : IntShift → ℕ → ℕ → ℕ → ℕ
kept name x old count = bit_or (int_shifted name x count) (bit_and old (bit_xor (int_shifted name 0xFFFF_FFFF count) 0xFFFF_FFFF))

same-code : (name : IntShift) (amount : Amount) (rest : List Step) → kept_code name amount ++ rest ≡ amount_code amount ++ shift name ∷ load 0 ∷ push_word 0xFFFF_FFFF ∷ (amount_code amount ++ shift name ∷ push_word 0xFFFF_FFFF ∷ arithmetic Ixor ∷ arithmetic Iand ∷ arithmetic Ior ∷ rest)
same-code name Forward rest = refl
same-code name Backward rest = refl

module _ (program : Program) (words a old : ℕ) (locals : ℕ → Value) (fields : ℕ → Value) (heap : Heap) (old_is : locals 0 ≡ int old) (a_is : locals 1 ≡ int a) where
  -- the outcome with these operands
  abbrev with_stack : List Step → List Value → Outcome
  with_stack code operands = outcome program words code (over_all locals operands fields heap)

  shifts : (name : IntShift) (amount : Amount) (x : ℕ) (operands : List Value) (rest : List Step) → with_stack (amount_code amount ++ shift name ∷ rest) (int x ∷ operands) ≡ laters (amount_turns amount) (with_stack rest (int (int_shifted name x (amount_at amount a)) ∷ operands))
  shifts name Forward x operands rest = simp a_is refl
  shifts name Backward x operands rest = simp a_is refl

  pushes-old : (x : ℕ) (rest : List Step) → with_stack (load 0 ∷ push_word 0xFFFF_FFFF ∷ rest) (int x ∷ []) ≡ laters 2 (with_stack rest (int 0xFFFF_FFFF ∷ int old ∷ int x ∷ []))
  pushes-old x rest = simp old_is refl

  combines : (x y : ℕ) (rest : List Step) → with_stack (push_word 0xFFFF_FFFF ∷ arithmetic Ixor ∷ arithmetic Iand ∷ arithmetic Ior ∷ rest) (int y ∷ int old ∷ int x ∷ []) ≡ laters 4 (with_stack rest (int (bit_or x (bit_and old (bit_xor y 0xFFFF_FFFF))) ∷ []))
  combines x y rest = refl

  pub Ends-kept : (name : IntShift) (amount : Amount) (x result : ℕ) (tail : List Step) → kept name x old (amount_at amount a) ≡ result → Ends (with_stack (kept_code name amount ++ (gives ++ tail)) (int x ∷ [])) 18 result fields heap
  Ends-kept name amount x result tail same =
      let rest = gives ++ tail in
      let count = amount_at amount a in
      let moved = int_shifted name x count in
      let mask = int_shifted name 0xFFFF_FFFF count in
      let last = push_word 0xFFFF_FFFF ∷ arithmetic Ixor ∷ arithmetic Iand ∷ arithmetic Ior ∷ rest in
      let second = amount_code amount ++ shift name ∷ last in
      let first = load 0 ∷ push_word 0xFFFF_FFFF ∷ second in
      let few = few-turns amount in
      let turns = amount_turns amount in
      let ended : Ends (with_stack last (int mask ∷ int old ∷ int moved ∷ [])) 4 result fields heap =
      Ends-after 4 (combines moved mask rest) (lit≤ tt) (Ends-returned program words locals fields heap tail (kept name x old count) result same) in
      let masked : Ends (with_stack second (int 0xFFFF_FFFF ∷ int old ∷ int moved ∷ [])) 10 result fields heap =
      Ends-after turns (shifts name amount 0xFFFF_FFFF (int old ∷ int moved ∷ []) last) (omega arith) ended in
      let pushed : Ends (with_stack first (int moved ∷ [])) 12 result fields heap = Ends-after 2 (pushes-old moved second) (lit≤ tt) masked in
      Ends-after turns (ap (λ l. with_stack l (int x ∷ [])) (same-code name amount rest) ∙ shifts name amount x [] first) (omega arith) pushed
    where
      few-turns : (amount : Amount) → amount_turns amount ≤ 6
      few-turns Forward = lit≤ tt
      few-turns Backward = lit≤ tt

-- ---- the amounts

left-count : (order : Order) (a : ℕ) → amount_at (left_amount order) a % 32 ≡ 8 * left_out order a
left-count Big a = forward-is a
left-count Little a = backward-is a ∙ omega arith

right-count : (order : Order) (a : ℕ) → amount_at (right_amount order) a % 32 ≡ 8 * right_out order a
right-count Big a = backward-is a ∙ omega arith
right-count Little a = forward-is a

out-below : (order : Order) (a : ℕ) → (left_out order a < 4) × (right_out order a < 4)
out-below Big a = (omega arith, omega arith)
out-below Little a = (omega arith, omega arith)

locals-kept : (order : Order) (v : ℕ) (locals : ℕ → Value) → (turned_locals order 3 v locals 0 ≡ locals 0) × (turned_locals order 3 v locals 1 ≡ locals 1)
locals-kept Big v locals = (refl, refl)
locals-kept Little v locals = (refl, refl)

-- ---- the methods

module _ (program : Program) (words old a pc : ℕ) (order : Order) (memory : Memory) (caller : Workspace) (called : IsCalled program order memory caller a) (old_word : IsWord old) where
  abbrev given : List Value
  given = int old ∷ int a ∷ int pc ∷ []

  abbrev locals : ℕ → Value
  locals = (body_workspace given caller).locals

  loads-part : (name : IntShift) (amount : Amount) (result : ℕ) → ((v : ℕ) → IsWordAt memory a v → kept name (guest.word_of_lanes order v) old (amount_at amount a) ≡ result) → LoadsAs program words order (loading 1 1 0 (ordered_code order 3 ++ kept_code name amount)) given caller pc a result caller.fields true (is_none (memory.byte a))
  loads-part name amount result mixes =
      loads-as program words 1 0 2 order one_byte (lit≤ tt) 1 (ordered_code order 3 ++ kept_code name amount) given caller memory a pc called refl refl result caller.fields true (is_none (memory.byte a)) (sym (eq-eqb (a % 1) 0 (omega arith))) refl finishes
    where
      finishes : (v : ℕ) → IsWordAt memory a v → a % 1 ≡ 0 → (tail : List Step) → Ends (outcome program words ((ordered_code order 3 ++ kept_code name amount ++ gives) ++ tail) (over_all locals (int v ∷ []) caller.fields caller.heap)) 43 result caller.fields caller.heap
      finishes v at aligned tail =
          let same = append_assoc (ordered_code order 3 ++ kept_code name amount) gives tail ∙ append_assoc (ordered_code order 3) (kept_code name amount) (gives ++ tail) in
          let there = locals-kept order v locals in
          let ends = Ends-kept program words a old (turned_locals order 3 v locals) caller.fields caller.heap there.0 there.1 name amount (guest.word_of_lanes order v) result tail (mixes v at) in
          Ends-after 0 refl (lit≤ tt)
          (Ends-ordered program words locals caller.fields caller.heap order 3 v (ordered_code order 3 ++ kept_code name amount ++ gives ++ tail) (kept_code name amount ++ (gives ++ tail)) same at.word ends)

  pub lwl-loads : LoadsByName program words order Lwl memory caller old a pc
  lwl-loads =
      loads-part Ishl (left_amount order) (merged memory (left_part order a) old)
      (λ v at. let x = guest.word_of_lanes order v in
      ap (left_mixed x old) (left-count order a)
      ∙ left-mixed x old (left_out order a) (IsWord-ordered order v at.word) old_word (out-below order a).0
      ∙ sym (left-merged memory a v old at order))

  pub lwr-loads : LoadsByName program words order Lwr memory caller old a pc
  lwr-loads =
      loads-part Iushr (right_amount order) (merged memory (right_part order a) old)
      (λ v at. let x = guest.word_of_lanes order v in
      ap (right_mixed x old) (right-count order a)
      ∙ right-mixed x old (right_out order a) (IsWord-ordered order v at.word) old_word (out-below order a).1
      ∙ sym (right-merged memory a v old at order))
