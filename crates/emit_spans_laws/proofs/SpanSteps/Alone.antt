-- The code of a word with which no piece begins.
use Rattle.std.proofs.Common.{◌≡◌, ℕ, ◌+◌, ◌*◌, Bool, true, false, List, map, refl, subst, arith}
use Rattle.run_definition.specs.declared.order.Order.{Order}
use Rattle.mips_definition.specs.State.{State}
use Rattle.delay_slots.specs.declared.unit.Unit.{Unit as Word}
use Rattle.delay_slots.specs.Units.{units_of}
use Rattle.delay_slots.specs.Turns.{unit_turns, turn_count, last_turn}
use Rattle.block_builder.specs.Blocks.{unit_at}
use Rattle.jvm_definition.specs.declared.instruction.Instruction.{Instruction}
use Rattle.jvm_definition.specs.Effect.{Workspace}
use Rattle.emit_steps.specs.declared.step.Step.{Step}
use Rattle.emit_steps.specs.Widths.{size}
use Rattle.emit_instructions.specs.Units.{unit_code}
use Rattle.emit_spans.specs.declared.span_words.SpanWords.{SpanWords}
use Rattle.emit_spans.specs.Pieces.{begins}
use Rattle.emit_spans.specs.Neighbours.{address, is_inner, next_such}
use Rattle.emit_spans.specs.Parts.{extent, exit_of}
use Rattle.emit_spans.specs.Laying.{entry_at, laid_step, return_offset, targets_of}
use Rattle.emit_spans.specs.Standing.{unit_entry}
use Rattle.emit_simulation_laws.specs.Sites.{Site, whole_weight}
use Rattle.emit_spans_laws.specs.Counting.{SparesMoves}
use Rattle.emit_spans_laws.specs.Spans.{HasSpan, StandsAt}
use Rattle.emit_spans_laws.proofs.SpanCodeLaws.Counting.{exit-weighs, laid-weighs}
use Rattle.emit_spans_laws.proofs.SpanCodeLaws.Words.{UnitLaws, at-entry, front-lies, is-known, is-lawful, unit-lies, word-goes}
use Rattle.emit_spans_laws.specs.InPieces.{HasUnit}
use Rattle.emit_spans_laws.specs.Following.{UnitFollowsBy, UnitGoesOn, UnitIsFollowedBehindFront, WordAloneIsFollowed}

-- the exit of a unit weighs nothing, as it is laid down
pub laid-exit-weighs : (order : Order) (units : List Word) (leads : ℕ → Bool) (span : SpanWords) (behind : _) (k : ℕ) (weight : Instruction → ℕ)
    → SparesMoves weight
    → whole_weight order (map (laid_step (extent span) (targets_of units leads span) (return_offset units leads span)) (exit_of units span behind k))
    weight ≡ 0
laid-exit-weighs order units leads span behind k weight spares =
    let laid = laid-weighs order weight (extent span) (targets_of units leads span) (return_offset units leads span) (exit_of units span behind k) in
    let none = exit-weighs order weight spares (extent span) behind (unit_at units k) (address span k) in
    omega (arith, laid, none)

module _ (laws : UnitLaws) (site : Site) (order : Order) (words : List ℕ) (leads : ℕ → Bool) (span : SpanWords) (has : HasSpan site words leads span)
    (k : ℕ) (w : Workspace) (x : State) (s : StandsAt order span k w x) (inner : begins leads span k ≡ false) where
  abbrev unit_list : List Word
  unit_list = units_of words

  abbrev unit : Word
  unit = unit_at unit_list k

  abbrev at : ℕ
  at = unit_entry unit_list leads span k

  abbrev exit : List Step
  exit = map (laid_step (extent span) (targets_of unit_list leads span) (return_offset unit_list leads span))
      (exit_of unit_list span (next_such (is_inner leads span) span k) k)

  alone-has : HasUnit site unit_list span k 0 (λ r. true) at unit x
  alone-has = record {
    above = s.above;
    below = s.below;
    is_there = refl;
    lawful = is-lawful laws site order words leads span has k w x s;
    lies = unit-lies laws site order words leads span has k w x s inner;
    knows = is-known laws site order words leads span has k w x s;
  }

  alone-goes : (total : (Instruction → ℕ) → ℕ) → UnitFollowsBy site 0 (λ r. true) at total unit w x
      → UnitGoesOn site unit_list leads span at (turn_count (unit_turns unit x)) (132 * turn_count (unit_turns unit x) + 8) total unit w
      (last_turn (unit_turns unit x))
  alone-goes total follows =
      let n : ℕ = turn_count (unit_turns unit x) in
      record {
        high = at + size (unit_code 0 unit (address span k)) + size exit;
        sum = λ weight. total weight + whole_weight order exit weight;
        spared = λ weight spares.
            let none = laid-exit-weighs order unit_list leads span (next_such (is_inner leads span) span k) k weight spares in
            omega (arith, none);
        follows = word-goes laws site order words leads span has k w x s inner n (132 * n) total (λ weight. total weight + whole_weight order exit weight)
            (132 * n + 8) (omega arith) (λ weight. omega arith) follows;
      }

  alone-followed : WordAloneIsFollowed site unit_list leads span k at w x
  alone-followed = record { has = alone-has; goes_on = alone-goes }

  pub behind-front : UnitIsFollowedBehindFront site unit_list leads span k w x
  behind-front = record { front = front-lies laws site order words leads span has k w x s inner; unit = alone-followed }

  pub alone-plain : span.metered ≡ false → WordAloneIsFollowed site unit_list leads span k (entry_at unit_list leads span k) w x
  alone-plain plain =
      subst (λ at. WordAloneIsFollowed site unit_list leads span k at w x) (at-entry laws site order words leads span has k w x s plain)
      alone-followed
