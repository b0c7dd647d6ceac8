-- What pieces of the methods' code do, one by one, before other code.
use Rattle.std.proofs.Common.{◌≡◌, ℕ, ◌/◌, ◌%◌, ◌==◌, ◌<◌, bit_and, bit_or, bit_xor, if◌then◌else◌, List, [], ◌∷◌, ◌++◌, None, refl, ap, ◌∙◌, arith, lit≤}
use Rattle.std.proofs.lemmas.Bool.{lt-ltb}
use Rattle.std.proofs.lemmas.Nat.{and_mask}
use Rattle.run_definition.specs.declared.order.Order.TheVariants.{Little}
use Rattle.jvm_definition.specs.declared.int_shift.IntShift.{IntShift}
use Rattle.jvm_definition.specs.declared.array_name.ArrayName.TheVariants.{Iaload}
use Rattle.jvm_definition.specs.declared.stack_name.StackName.TheVariants.{Dup2}
use Rattle.jvm_definition.specs.declared.value.Value.{Value}
use Rattle.jvm_definition.specs.declared.value.Value.TheVariants.{Int as int, Array as array}
use Rattle.jvm_definition.specs.Program.{Program}
use Rattle.jvm_definition.specs.Words.{int_shifted}
use Rattle.jvm_definition.specs.Values.{with_int}
use Rattle.jvm_definition.specs.Effect.{Workspace, gives}
use Rattle.jvm_definition.specs.declared.instruction.Instruction.TheVariants as instructions
use Rattle.emit_steps.specs.declared.step.Step.{Step}
use Rattle.emit_steps.specs.declared.step.Step.TheVariants.{Does}
use Rattle.emit_steps.specs.Outcomes.{outcome}
use Rattle.mem_helpers.specs.Parts.{stack, index_code, forward_code, backward_code, ordered_code}
use Rattle.mem_helpers.specs.Stores.{read_code, cleared_code, set_code, put_word, returns_nothing}
use Rattle.emit_simulation_laws.specs.Match.{IsPage}
use Rattle.mem_helpers_laws.proofs.StoreLaws.Stopping.{Stops, laters}
use Rattle.mem_helpers_laws.proofs.StoreLaws.Reversing.{turned_round}
use Rattle.mem_helpers_laws.proofs.StoreLaws.Amounts.{forward_amount, backward_amount}

module _ (program : Program) (words value a p : ℕ) (w : Workspace) (page : IsPage w.heap p) where
  -- the word of the page at the address
  abbrev pub word_there : ℕ
  word_there = page.words (a / 4 % 1024)

  module _ (locals : ℕ → Value) where
    abbrev pub having : List Value → Workspace
    having operands = record { locals = locals; operands = operands; fields = w.fields; heap = w.heap }

    -- after the store of a word
    abbrev pub stored_at : ℕ → Workspace
    stored_at v = record { locals = locals; operands = []; fields = w.fields; heap = with_int w.heap p (a / 4 % 1024) v }

    pub returned : (v : ℕ) (rest : List Step) → Stops 0 (outcome program words (returns_nothing ++ rest) (stored_at v)) (gives None (stored_at v))
    returned v rest = record { turns = 0; step = 0; at = stored_at v; is = refl; in_time = lit≤ tt }

    pub word-put : (v : ℕ) (rest : List Step) → outcome program words (put_word ++ rest) (having (int v ∷ int (a / 4 % 1024) ∷ array p ∷ [])) ≡ laters 1 (outcome program words rest (stored_at v))
    word-put v rest = let inside : a / 4 % 1024 < 1024 = omega arith in simp (page.there, lt-ltb (a / 4 % 1024) 1024 inside) refl

    module _ (address : locals 1 ≡ int a) where
      pub index-pushed : (operands : List Value) (rest : List Step) → outcome program words (index_code 1 ++ rest) (having operands) ≡ laters 5 (outcome program words rest (having (int (a / 4 % 1024) ∷ operands)))
      index-pushed operands rest = simp (address, and_mask (a / 4) 10) refl

      -- the word at an index is read, which stays below it
      there-read : (rest : List Step) → outcome program words (stack Dup2 ∷ Does (instructions.Array Iaload) ∷ rest) (having (int (a / 4 % 1024) ∷ array p ∷ [])) ≡ laters 2 (outcome program words rest (having (int word_there ∷ int (a / 4 % 1024) ∷ array p ∷ [])))
      there-read rest = let inside : a / 4 % 1024 < 1024 = omega arith in simp (page.there, lt-ltb (a / 4 % 1024) 1024 inside) refl

      pub word-read : (rest : List Step) → outcome program words (read_code ++ rest) (having (array p ∷ [])) ≡ laters 7 (outcome program words rest (having (int word_there ∷ int (a / 4 % 1024) ∷ array p ∷ [])))
      word-read rest = index-pushed (array p ∷ []) (stack Dup2 ∷ Does (instructions.Array Iaload) ∷ rest) ∙ ap (laters 5) (there-read rest)

      -- ---- bits are cleared and set

      pub cut-backward : (bits low u : ℕ) (name : IntShift) (operands : List Value) (rest : List Step) → outcome program words (cleared_code bits (backward_code low 1) name ++ rest) (having (int u ∷ operands)) ≡ laters 10 (outcome program words rest (having (int (bit_and u (bit_xor (int_shifted name bits (backward_amount low a)) 0xFFFFFFFF)) ∷ operands)))
      cut-backward bits low u name operands rest = simp address refl

      pub cut-forward : (bits u : ℕ) (name : IntShift) (operands : List Value) (rest : List Step) → outcome program words (cleared_code bits (forward_code 1) name ++ rest) (having (int u ∷ operands)) ≡ laters 8 (outcome program words rest (having (int (bit_and u (bit_xor (int_shifted name bits (forward_amount a)) 0xFFFFFFFF)) ∷ operands)))
      cut-forward bits u name operands rest = simp address refl

      pub set-backward : (low b u : ℕ) (name : IntShift) (operands : List Value) (rest : List Step) → outcome program words (set_code (backward_code low 1) name ++ rest) (having (int b ∷ int u ∷ operands)) ≡ laters 7 (outcome program words rest (having (int (bit_or u (int_shifted name b (backward_amount low a))) ∷ operands)))
      set-backward low b u name operands rest = simp address refl

      pub set-forward : (b u : ℕ) (name : IntShift) (operands : List Value) (rest : List Step) → outcome program words (set_code (forward_code 1) name ++ rest) (having (int b ∷ int u ∷ operands)) ≡ laters 5 (outcome program words rest (having (int (bit_or u (int_shifted name b (forward_amount a))) ∷ operands)))
      set-forward b u name operands rest = simp address refl

  -- ---- a word is turned round, by a local variable

  abbrev pub keeping : (ℕ → Value) → ℕ → ℕ → Value
  keeping locals u k = if k == 3 then int u else locals k

  pub turned-pushed : (locals : ℕ → Value) (u : ℕ) (operands : List Value) (rest : List Step) → outcome program words (ordered_code Little 3 ++ rest) (having locals (int u ∷ operands)) ≡ laters 20 (outcome program words rest (having (keeping locals u) (int (turned_round u) ∷ operands)))
  turned-pushed locals u operands rest = refl
