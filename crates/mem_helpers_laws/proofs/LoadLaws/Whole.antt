-- LW and LL by their methods.
use Rattle.std.proofs.Common.{◌≡◌, ℕ, ◌+◌, ◌/◌, ◌%◌, List, [], ◌∷◌, ◌++◌, is_none, unwrap_or, refl, ap, sym, ◌∙◌, arith, lit≤, append_assoc}
use Rattle.run_definition.specs.Words.{lane_of_word}
use Rattle.run_definition.specs.declared.order.Order.{Order}
use Rattle.run_definition.specs.declared.order.Order.TheVariants.{Big, Little}
use Rattle.nv_words.proofs.LaneLemmas.{word_of_lanes}
use Rattle.run_definition.specs.Memory.{Memory}
use Rattle.mips_definition.specs.Loads.{load_aligned}
use Rattle.mips_definition.specs.Memory as guest
use Rattle.mips_definition.specs.Memory.{byte_at, word_at}
use Rattle.mips_definition.specs.declared.names.load_name.LoadName.TheVariants.{Lw}
use Rattle.jvm_definition.specs.declared.value.Value.{Value}
use Rattle.jvm_definition.specs.declared.value.Value.TheVariants.{Int as int}
use Rattle.jvm_definition.specs.Program.{Program}
use Rattle.jvm_definition.specs.Values.{Heap}
use Rattle.jvm_definition.specs.Effect.{Workspace}
use Rattle.jvm_definition_laws.specs.Stretch.{body_workspace}
use Rattle.emit_steps.specs.declared.step.Step.{Step}
use Rattle.emit_steps.specs.Outcomes.{outcome}
use Rattle.emit_instructions.specs.Access.{push_word, put_field}
use Rattle.emit_instructions.specs.Fields.{link_field, linked_field}
use Rattle.mem_helpers.specs.Parts.{load, ordered_code}
use Rattle.mem_helpers.specs.Loads.{gives, loading}
use Rattle.mem_helpers_laws.specs.Loading.{LoadsAs, LoadsByName, LoadsLinked, linked_fields}
use Rattle.mem_helpers_laws.proofs.LoadLaws.Coming.{laters}
use Rattle.mem_helpers_laws.proofs.LoadLaws.Widths.{over_all, four_bytes}
use Rattle.mem_helpers_laws.proofs.LoadLaws.Accessing.{IsCalled, IsWordAt, Ends, loads-as}
use Rattle.mem_helpers_laws.proofs.LoadLaws.Orders.{turned_locals}
use Rattle.mem_helpers_laws.proofs.LoadLaws.Ending.{Ends-returned, Ends-after, Ends-ordered}

-- the byte at an address of the word
pub byte-is : (memory : Memory) (a v x k : ℕ) → IsWordAt memory a v → x / 4 ≡ a / 4 → x % 4 ≡ k → byte_at memory x ≡ lane_of_word v k
byte-is memory a v x k at same number = ap (λ o. unwrap_or o 0) (at.lane x same) ∙ ap (lane_of_word v) number

-- the guest's word
pub word-is : (order : Order) (memory : Memory) (a v : ℕ) → IsWordAt memory a v → a % 4 ≡ 0 → word_at order memory a ≡ guest.word_of_lanes order v
word-is Big memory a v at aligned =
    let first = byte-is memory a v a 0 at refl aligned in
    let second = byte-is memory a v (a + 1) 1 at (omega arith) (omega arith) in
    let third = byte-is memory a v (a + 2) 2 at (omega arith) (omega arith) in
    let fourth = byte-is memory a v (a + 3) 3 at (omega arith) (omega arith) in
    simp (first, second, third, fourth) (word_of_lanes v at.word)
word-is Little memory a v at aligned =
    let first = byte-is memory a v a 0 at refl aligned in
    let second = byte-is memory a v (a + 1) 1 at (omega arith) (omega arith) in
    let third = byte-is memory a v (a + 2) 2 at (omega arith) (omega arith) in
    let fourth = byte-is memory a v (a + 3) 3 at (omega arith) (omega arith) in
    simp (first, second, third, fourth) refl

-- the address is linked
abbrev linking : List Step
linking = load 0 ∷ put_field link_field ∷ push_word 1 ∷ put_field linked_field ∷ []

links : (program : Program) (words a r : ℕ) (locals : ℕ → Value) (fields : ℕ → Value) (heap : Heap) (rest : List Step) → locals 0 ≡ int a → outcome program words (load 0 ∷ put_field link_field ∷ push_word 1 ∷ put_field linked_field ∷ rest) (over_all locals (int r ∷ []) fields heap) ≡ laters 4 (outcome program words rest (over_all locals (int r ∷ []) (linked_fields fields a) heap))
links program words a r locals fields heap rest is = simp is refl

address-kept : (order : Order) (v : ℕ) (locals : ℕ → Value) → turned_locals order 2 v locals 0 ≡ locals 0
address-kept Big v locals = refl
address-kept Little v locals = refl

module _ (program : Program) (words old a pc : ℕ) (order : Order) (memory : Memory) (caller : Workspace) (called : IsCalled program order memory caller a) where
  abbrev given : List Value
  given = int a ∷ int pc ∷ []

  abbrev locals : ℕ → Value
  locals = (body_workspace given caller).locals

  -- what is to be shown of the code behind the word that was read
  abbrev Finishes : List Step → (ℕ → Value) → Type 0
  Finishes middle left =
      (v : ℕ) → IsWordAt memory a v → a % 4 ≡ 0 → (tail : List Step) → Ends (outcome program words ((middle ++ gives) ++ tail) (over_all locals (int v ∷ []) caller.fields caller.heap)) 43 (word_at order memory a) left caller.heap

  loads-whole : (middle : List Step) (left : ℕ → Value) → Finishes middle left → LoadsAs program words order (loading 0 4 3 middle) given caller pc a (word_at order memory a) left (load_aligned Lw a) (is_none (memory.byte a))
  loads-whole middle left finishes =
      loads-as program words 4 3 4 order four_bytes (lit≤ tt) 0 middle given caller memory a pc called refl refl (word_at order memory a) left (load_aligned Lw a) (is_none (memory.byte a)) refl refl finishes

  -- the word in the guest's order is returned
  returned : (v : ℕ) → IsWordAt memory a v → a % 4 ≡ 0 → (tail : List Step) (left : ℕ → Value) → Ends (outcome program words (gives ++ tail) (over_all (turned_locals order 2 v locals) (int (guest.word_of_lanes order v) ∷ []) left caller.heap)) 0 (word_at order memory a) left caller.heap
  returned v at aligned tail left =
      Ends-returned program words (turned_locals order 2 v locals) left caller.heap tail (guest.word_of_lanes order v) (word_at order memory a) (sym (word-is order memory a v at aligned))

  pub lw-loads : LoadsByName program words order Lw memory caller old a pc
  lw-loads = loads-whole (ordered_code order 2) caller.fields finishes
    where
      finishes : Finishes (ordered_code order 2) caller.fields
      finishes v at aligned tail =
          Ends-after 0 refl (lit≤ tt)
          (Ends-ordered program words locals caller.fields caller.heap order 2 v (ordered_code order 2 ++ gives ++ tail) (gives ++ tail) (append_assoc (ordered_code order 2) gives tail) at.word (returned v at aligned tail caller.fields))

  pub ll-loads : LoadsLinked program words order memory caller a pc
  ll-loads = loads-whole (ordered_code order 2 ++ linking) (linked_fields caller.fields a) finishes
    where
      finishes : Finishes (ordered_code order 2 ++ linking) (linked_fields caller.fields a)
      finishes v at aligned tail =
          let word_there = guest.word_of_lanes order v in
          let kept = turned_locals order 2 v locals in
          let rest = linking ++ (gives ++ tail) in
          let same = append_assoc (ordered_code order 2 ++ linking) gives tail ∙ append_assoc (ordered_code order 2) linking (gives ++ tail) in
          let linked = links program words a word_there kept caller.fields caller.heap (gives ++ tail) (address-kept order v locals) in
          let ends : Ends (outcome program words rest (over_all kept (int word_there ∷ []) caller.fields caller.heap)) 4 (word_at order memory a) (linked_fields caller.fields a) caller.heap =
          Ends-after 4 linked (lit≤ tt) (returned v at aligned tail (linked_fields caller.fields a)) in
          Ends-after 0 refl (lit≤ tt) (Ends-ordered program words locals caller.fields caller.heap order 2 v (ordered_code order 2 ++ linking ++ gives ++ tail) rest same at.word ends)
