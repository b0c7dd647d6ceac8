-- The method of a span: a switch by the guest's address, the warm code of the pieces, the code of each other word, and a return.
use Rattle.std.specs.Prelude.{ℕ, ◌+◌, ◌-◌, ◌*◌, ◌/◌, pos, if◌then◌else◌, List, [], ◌∷◌, ◌++◌, map, filter, slice_index_or, Bool}
use Rattle.std.specs.List.{flat_map}
use Rattle.delay_slots.specs.declared.unit.Unit.{Unit}
use Rattle.delay_slots.specs.Places.{Address, WordIndex}
use Rattle.emit_steps.specs.declared.step.Step.{Step}
use Rattle.emit_steps.specs.declared.step.Step.TheVariants.{Does, Skips, Leaves, Selects}
use Rattle.emit_steps.specs.Widths.{size}
use Rattle.emit_steps.specs.Offsets.{CodeOffset}
use Rattle.word_emitter.specs.declared.extent.Extent.{Extent}
use Rattle.emit_steps.specs.Returning.{returns}
use Rattle.word_emitter.specs.Exits.{has}
use Rattle.emit_spans.specs.declared.span_words.SpanWords.{SpanWords}
use Rattle.emit_spans.specs.declared.stretch.Stretch.{Stretch}
use Rattle.emit_spans.specs.Pieces.{words_before, all_words, begins}
use Rattle.emit_spans.specs.Neighbours.{address, is_inner}
use Rattle.emit_spans.specs.Parts.{extent, warm_part, cold_part}
use Rattle.emit_spans.specs.Opening.{opening}

-- where the code behind the switch begins: `tableswitch` has 13 bytes here, and 4 for each word
abbrev pub base : SpanWords → CodeOffset
base span = size (opening (address span span.first)) + 13 + 4 * (span.end - span.first)

-- ---- the parts, and where they stand

-- the warm code of the pieces that begin before a word, and the code of the other words before it
abbrev pub warm_before : List Unit → (ℕ → Bool) → SpanWords → WordIndex → List Step
warm_before units leads span k =
    flat_map (warm_part units leads span) (filter (begins leads span) (words_before span k))

abbrev pub cold_before : List Unit → (ℕ → Bool) → SpanWords → WordIndex → List Step
cold_before units leads span k =
    flat_map (cold_part units leads span) (filter (is_inner leads span) (words_before span k))

-- the offset behind the warm code, and that of the return
abbrev pub cold_base : List Unit → (ℕ → Bool) → SpanWords → CodeOffset
cold_base units leads span = base span + size (warm_before units leads span span.end)

abbrev pub return_offset : List Unit → (ℕ → Bool) → SpanWords → CodeOffset
return_offset units leads span =
    cold_base units leads span + size (cold_before units leads span span.end)

-- the offset of the code of a word of the span
abbrev pub entry_at : List Unit → (ℕ → Bool) → SpanWords → WordIndex → CodeOffset
entry_at units leads span k =
    if begins leads span k then base span + size (warm_before units leads span k)
    else cold_base units leads span + size (cold_before units leads span k)

-- where the switch goes, for each word of the span
abbrev pub targets_of : List Unit → (ℕ → Bool) → SpanWords → List CodeOffset
targets_of units leads span = map (entry_at units leads span) (all_words span)

-- ---- all of it

-- a step that leaves to an address goes where the switch goes for that address: to the return where no word of the span stands there
abbrev pub entry_of : Extent → List CodeOffset → CodeOffset → Address → CodeOffset
entry_of span targets otherwise at =
    if has span at then slice_index_or targets ((at - span.first) / 4) otherwise else otherwise

abbrev pub laid_step : Extent → List CodeOffset → CodeOffset → Step → Step
laid_step span targets otherwise (Does instruction) = Does instruction
laid_step span targets otherwise (Skips name k) = Skips name k
laid_step span targets otherwise (Leaves at) = Leaves (entry_of span targets otherwise at)
laid_step span targets otherwise (Selects s) = Selects s

abbrev pub switch : List CodeOffset → CodeOffset → Step
switch targets otherwise = Selects (record { default = otherwise; low = pos 0; targets = targets })

-- parts behind the switch, with steps that leave to addresses, and the return
abbrev pub laid_out : Extent → List CodeOffset → CodeOffset → List Step → List Step
laid_out span targets otherwise parts =
    opening span.first ++ switch targets otherwise
    ∷ (map (laid_step span targets otherwise) parts ++ returns ∷ [])

abbrev pub span_code : List Unit → (ℕ → Bool) → SpanWords → List Step
span_code units leads span =
    laid_out (extent span) (targets_of units leads span) (return_offset units leads span)
    (warm_before units leads span span.end ++ cold_before units leads span span.end)

-- ---- what is told of it

-- the offsets of a piece's warm code
abbrev pub stretch_at : List Unit → (ℕ → Bool) → SpanWords → WordIndex → Stretch
stretch_at units leads span k = record {
  from = base span + size (warm_before units leads span k);
  to = base span + size (warm_before units leads span k) + size (warm_part units leads span k);
}

abbrev pub stretches_of : List Unit → (ℕ → Bool) → SpanWords → List Stretch
stretches_of units leads span =
    map (stretch_at units leads span) (filter (begins leads span) (all_words span))
