-- The spans of a class are joined, and they are few.
use Rattle.std.proofs.Common.{◌≡◌, ℕ, ◌+◌, ◌≤◌, List, [], ◌∷◌, length, drop, ap, subst, arith, length-drop}
use Rattle.std.proofs.lemmas.List.FromFn.{length-map-range_with_len}
use Rattle.block_builder.specs.Blocks.{unit_at}
use Rattle.method_splitter.specs.Cuts.{Cuts, Fills}
use Rattle.method_splitter.specs.declared.span.Span.{Span}
use Rattle.emit_program_laws.specs.TrampolineLaws.Classes.{AreJoined}
use Rattle.translate_classes.specs.declared.part.Part.{Part}
use Rattle.translate_program.specs.Spans.{weight_at, weights_of}
use Rattle.translate_program.proofs.Counts.SpanLemmas.{cut-few}
use Rattle.nv_translate.proofs.TranslatedMethods.Weights.{weight-small}
use Rattle.nv_translate.proofs.TranslatedMethods.Elements.{all-counted}

pub joined : (first : ℕ) (weights : List ℕ) (limit : ℕ) (spans : List Span) → Cuts first weights limit spans
    → AreJoined first spans (first + length weights)
joined first weights limit [] cuts = omega (arith, ap length cuts)
joined first weights limit (s ∷ spans) cuts =
    let fits = cuts.2 in
    let end : (first + s.words) + length (drop s.words weights) ≡ first + length weights = omega (arith, length-drop s.words weights, fits) in
    (cuts.0, cuts.1, subst (AreJoined (first + s.words) spans) end (joined (first + s.words) (drop s.words weights) limit spans cuts.4))

pub few-spans : (part : Part) (limit : ℕ) (spans : List Span) → 4096 ≤ limit → part.words ≤ 6144 → Cuts 0 (weights_of part part.words) limit spans
    → Fills (weights_of part part.words) limit spans → length spans ≤ 2048
few-spans part limit spans large short cuts fills =
    let small = all-counted (λ (w : ℕ). w ≤ 540) (weight_at part) 0 part.words (λ j from below. weight-small part.metered (unit_at part.units.now (part.first + j))) in
    let most = cut-few 0 (weights_of part part.words) limit spans large small cuts fills in
    omega (arith, most, length-map-range_with_len (weight_at part) 0 part.words, short)

pub joined-spans : (part : Part) (limit : ℕ) (spans : List Span) → Cuts 0 (weights_of part part.words) limit spans → AreJoined 0 spans part.words
joined-spans part limit spans cuts =
    let end : 0 + length (weights_of part part.words) ≡ part.words = omega (arith, length-map-range_with_len (weight_at part) 0 part.words) in
    subst (AreJoined 0 spans) end (joined 0 (weights_of part part.words) limit spans cuts)
