-- Where the code of each word stands.
use Rattle.std.proofs.Common.{◌≡◌, ℕ, ◌+◌, ◌-◌, ◌<◌, ◌≤◌, Bool, true, false, if◌then◌else◌, List, length, map, get_or, sym, ap, ◌∙◌, arith}
use Rattle.std.proofs.lemmas.List.FromFn.{length-map-range_with_len, get_or-map-range_with_len}
use Rattle.delay_slots.specs.declared.unit.Unit.{Unit}
use Rattle.emit_steps.specs.Widths.{size}
use Rattle.emit_spans.specs.declared.span_words.SpanWords.{SpanWords}
use Rattle.emit_spans.specs.Pieces.{all_words, begins}
use Rattle.emit_spans.specs.Neighbours.{is_inner}
use Rattle.emit_spans.specs.Parts.{cold_part}
use Rattle.emit_spans.specs.Laying.{base, warm_before, cold_before, cold_base, return_offset, entry_at}
use Rattle.emit_spans.specs.Bodies.{part_offset}
use Rattle.emit_spans.proofs.BodyLemmas.{size-rises}

-- what is told of each word of a span is told at the word's number in it
pub told-length : (F : ℕ → ℕ) (span : SpanWords) (told : List ℕ) → told ≡ map F (all_words span) → length told ≡ span.end - span.first
told-length F span told is = ap length is ∙ length-map-range_with_len F span.first (span.end - span.first)

pub told-at : (F : ℕ → ℕ) (span : SpanWords) (told : List ℕ) (k : ℕ) → told ≡ map F (all_words span) → span.first ≤ k → k < span.end
    → get_or told (k - span.first) 0 ≡ F k
told-at F span told k is first last =
    ap (λ l. get_or l (k - span.first) 0) is
    ∙ get_or-map-range_with_len F span.first (span.end - span.first) (k - span.first) k 0 (omega arith) (omega arith)

pub entry-warm : (units : List Unit) (leads : ℕ → Bool) (span : SpanWords) (k : ℕ) → begins leads span k ≡ true
    → part_offset units leads span k ≡ entry_at units leads span k
entry-warm units leads span k is =
    let warm = base span + size (warm_before units leads span k) in
    let cold = size (cold_before units leads span k) in
    ap (λ b. if b then warm else cold) is ∙ sym (ap (λ b. if b then warm else cold_base units leads span + cold) is)

cold-is : (units : List Unit) (leads : ℕ → Bool) (span : SpanWords) (k : ℕ) → begins leads span k ≡ false
    → part_offset units leads span k ≡ size (cold_before units leads span k)
cold-is units leads span k is = ap (λ b. if b then base span + size (warm_before units leads span k) else size
    (cold_before units leads span k)) is

pub entry-cold : (units : List Unit) (leads : ℕ → Bool) (span : SpanWords) (k : ℕ) → begins leads span k ≡ false
    → cold_base units leads span + part_offset units leads span k ≡ entry_at units leads span k
entry-cold units leads span k is =
    let warm = base span + size (warm_before units leads span k) in
    let cold = size (cold_before units leads span k) in
    ap (λ n. cold_base units leads span + n) (cold-is units leads span k is)
    ∙ sym (ap (λ b. if b then warm else cold_base units leads span + cold) is)

-- code of a word stands before the return
pub cold-small : (units : List Unit) (leads : ℕ → Bool) (span : SpanWords) (k : ℕ) → begins leads span k ≡ false → span.first ≤ k
    → k < span.end → cold_base units leads span + part_offset units leads span k ≤ return_offset units leads span
cold-small units leads span k is first last =
    omega (arith, cold-is units leads span k is, size-rises (cold_part units leads span) (is_inner leads span) span k first (omega arith))
