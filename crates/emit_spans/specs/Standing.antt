-- Where the parts stand in the code of the method.
use Rattle.std.specs.Prelude.{◌≡◌, ℕ, ◌+◌, Bool, if◌then◌else◌, List, ◌++◌, map}
use Rattle.delay_slots.specs.declared.unit.Unit.{Unit}
use Rattle.delay_slots.specs.Places.{WordIndex}
use Rattle.block_builder.specs.Blocks.{unit_at}
use Rattle.emit_steps.specs.declared.step.Step.{Step}
use Rattle.emit_steps.specs.Widths.{size}
use Rattle.emit_steps.specs.Offsets.{CodeOffset}
use Rattle.emit_spans.specs.declared.span_words.SpanWords.{SpanWords}
use Rattle.emit_spans.specs.Pieces.{begins}
use Rattle.emit_spans.specs.Neighbours.{address}
use Rattle.emit_spans.specs.Parts.{extent, warm_part, front_of, cold_part}
use Rattle.emit_spans.specs.Laying.{entry_at, targets_of, return_offset, laid_step}

-- Steps stand one after the other in code, the first of them at an offset.
pub record StandsAt (code part : List Step) (at : CodeOffset) : Type 0 where
  pub front : List Step
  pub behind : List Step
  pub is : code ≡ front ++ (part ++ behind)
  pub offset : size front ≡ at

-- the code of a word, as it is laid down
abbrev pub laid_part : List Unit → (ℕ → Bool) → SpanWords → WordIndex → List Step
laid_part units leads span k =
    map (laid_step (extent span) (targets_of units leads span) (return_offset units leads span))
    (if begins leads span k then warm_part units leads span k else cold_part units leads span k)

-- the offset of the code of a word's unit, behind what stands in front of it
abbrev pub unit_entry : List Unit → (ℕ → Bool) → SpanWords → WordIndex → CodeOffset
unit_entry units leads span k =
    entry_at units leads span k
    + size (front_of span.metered (unit_at units k) (address span k))
