-- Weights by which the way behind a unit weighs nothing, and what the code of words weighs by them.
use Rattle.std.specs.Prelude.{◌≡◌, ℕ, ◌+◌, ◌<◌, ◌≤◌, Bool, true, false, List}
use Rattle.run_definition.specs.declared.order.Order.{Order}
use Rattle.delay_slots.specs.declared.unit.Unit.{Unit}
use Rattle.delay_slots.specs.Places.{WordIndex}
use Rattle.block_builder.specs.Blocks.{unit_at}
use Rattle.jvm_definition.specs.declared.branch_name.BranchName.{BranchName}
use Rattle.jvm_definition.specs.declared.return_name.ReturnName.{ReturnName}
use Rattle.jvm_definition.specs.declared.constant.Constant.{Constant}
use Rattle.jvm_definition.specs.declared.kind.Kind.{Kind}
use Rattle.jvm_definition.specs.declared.local_kind.LocalKind.{LocalKind}
use Rattle.jvm_definition.specs.declared.instruction.Instruction.{Instruction}
use Rattle.jvm_definition.specs.declared.instruction.Instruction.TheVariants.{Push, Load, Store, Branch, Get, Put, Return}
use Rattle.emit_instructions.specs.Units.{unit_code}
use Rattle.word_emitter.specs.Pieces.{bank_of, piece_units, units_code}
use Rattle.emit_spans.specs.declared.span_words.SpanWords.{SpanWords}
use Rattle.emit_spans.specs.Neighbours.{address}
use Rattle.emit_spans.specs.Parts.{front_of}
use Rattle.emit_spans.specs.Pieces.{begins, piece_at}
use Rattle.emit_spans.specs.Standing.{laid_part}
use Rattle.emit_paths_laws.specs.Classes.{reads, chars, switches, entries, puts}
use Rattle.emit_simulation_laws.specs.Sites.{whole_weight}

-- What moves values between the stack, local variables and the layout's 38 fields, branches and returns weighs nothing.
pub record SparesMoves (weight : Instruction → ℕ) : Type 0 where
  pub push : (constant : Constant) → weight (Push constant) ≡ 0
  pub load : (kind : LocalKind) (i : ℕ) → weight (Load kind i) ≡ 0
  pub store : (kind : LocalKind) (i : ℕ) → weight (Store kind i) ≡ 0
  pub get : (f : ℕ) (kind : Kind) → weight (Get f kind) ≡ 0
  pub put : (f : ℕ) (kind : Kind) → f < 38 → weight (Put f kind) ≡ 0
  pub branch : (name : BranchName) (target : ℕ) → weight (Branch name target) ≡ 0
  pub give_back : (name : ReturnName) → weight (Return name) ≡ 0

-- Each weight that is counted of the classes is such a one.
pub record CountsSpareMoves : Type 0 where
  pub of_reads : SparesMoves reads
  pub of_chars : SparesMoves chars
  pub of_switches : SparesMoves switches
  pub of_entries : (is_span : ℕ → Bool) → SparesMoves (entries is_span)
  -- and so are writes of a field behind the layout's
  pub of_puts : (f : ℕ) → 38 ≤ f → SparesMoves (puts f)

-- What the code of a word weighs by a weight, as it is laid down, with the methods that it calls.
pub record PartWeighsItsUnits (order : Order) (weight : Instruction → ℕ) (units : List Unit)
    (leads : ℕ → Bool) (span : SpanWords) (k : WordIndex) : Type 0 where
  -- where no piece begins with the word, what the code of its unit weighs, with what stands in front
  -- of it
  pub word : begins leads span k ≡ false
      → whole_weight order (laid_part units leads span k) weight
      ≡ whole_weight order (front_of span.metered (unit_at units k) (address span k)) weight
      + whole_weight order (unit_code 0 (unit_at units k) (address span k)) weight
  -- where a piece begins with it, what the codes of the piece's units weigh
  pub piece : begins leads span k ≡ true
      → let own = piece_units units (piece_at units leads span k) in
      whole_weight order (laid_part units leads span k) weight
      ≡ whole_weight order (units_code (bank_of own) own (address span k)) weight

-- It is so by each weight that moves of values, branches and returns have none of.
abbrev pub PartsWeighTheirUnits : Type 0
PartsWeighTheirUnits =
    (order : Order) (weight : Instruction → ℕ) (units : List Unit) (leads : ℕ → Bool)
    (span : SpanWords) (k : WordIndex)
    → SparesMoves weight
    → PartWeighsItsUnits order weight units leads span k
