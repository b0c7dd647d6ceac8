-- The warm code of a piece ends where that of a later one begins, or before.
use Rattle.std.proofs.Common.{◌≡◌, ℕ, ◌+◌, ◌<◌, ◌≤◌, Bool, true, List, arith}
use Rattle.std.specs.Prelude.{filter}
use Rattle.delay_slots.specs.declared.unit.Unit.{Unit}
use Rattle.emit_spans.specs.declared.span_words.SpanWords.{SpanWords}
use Rattle.emit_spans.specs.Pieces.{begins, words_before}
use Rattle.emit_spans.specs.Parts.{warm_part}
use Rattle.emit_spans.specs.Laying.{stretch_at}
use Rattle.emit_spans.proofs.BodyLemmas.{kept-more, size-more, size-rises}

pub stretches-apart : (units : List Unit) (leads : ℕ → Bool) (span : SpanWords) (k l : ℕ) → span.first ≤ k → k < l → begins leads span k ≡ true
    → (stretch_at units leads span k).to ≤ (stretch_at units leads span l).from
stretches-apart units leads span k l above less begin =
    let up_to : SpanWords = record { metered = span.metered; start = span.start; first = span.first; end = l } in
    let test = begins leads span in
    let own = warm_part units leads span in
    let more = size-more own (filter test (words_before span k)) (filter test (words_before span (k + 1))) k (kept-more test span k above begin) in
    let later = size-rises own test up_to (k + 1) (omega (arith, above)) (omega (arith, less)) in
    omega (arith, more, later)
