-- The words of a part of the code by their weights, and their spans.
use Rattle.std.specs.Prelude.{ℕ, ◌+◌, List, map}
use Rattle.std.specs.List.{range_with_len}
use Rattle.block_builder.specs.Blocks.{unit_at}
use Rattle.method_splitter.specs.Cuts.{Cuts, Fills}
use Rattle.method_splitter.specs.declared.span.Span.{Span}
use Rattle.emit_limits.specs.Weights.{weight_of}
use Rattle.translate_classes.specs.declared.part.Part.{Part}

abbrev pub weight_at : Part → ℕ → ℕ
weight_at part k = weight_of part.metered (unit_at part.units.now (part.first + k))

-- the weights of the first words of a part
abbrev pub weights_of : Part → ℕ → List ℕ
weights_of part count = map (weight_at part) (range_with_len 0 count)

-- Spans of all its words, of at most so many bytes by their weights: as few as there can be, each but the last as long as there can be.
pub record AreSpans (part : Part) (method_bytes : ℕ) (spans : List Span) : Type 0 where
  pub cuts : Cuts 0 (weights_of part part.words) method_bytes spans
  pub fills : Fills (weights_of part part.words) method_bytes spans
