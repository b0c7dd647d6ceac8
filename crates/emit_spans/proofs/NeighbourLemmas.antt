-- The search for the next word that passes a test.
use Rattle.std.proofs.Common.{◌≡◌, ℕ, ◌+◌, ◌-◌, ◌<◌, ◌≤◌, Bool, true, Some, None, sym, ap, ◌∙◌, arith}
use Rattle.std.specs.Prelude.{find}
use Rattle.std.specs.List.{range_with_len}
use Rattle.std.specs.Option.{option_map}
use Rattle.block_builder.proofs.BlockLemmas.{find_here}
use Rattle.emit_spans.specs.declared.span_words.SpanWords.{SpanWords}
use Rattle.emit_spans.specs.Neighbours.{address, next_such}

pub next_found : (test : ℕ → Bool) (span : SpanWords) (k next : ℕ) → next < span.end → test next ≡ true
    → find test (range_with_len next (span.end - next)) ≡ find test (range_with_len (k + 1) (span.end - (k + 1)))
    → Some (address span next) ≡ next_such test span k
next_found test span k next lt is same = ap (option_map (address span)) (sym (find_here test next span.end lt is) ∙ same)

pub next_missing : (test : ℕ → Bool) (span : SpanWords) (k next : ℕ) → span.end ≤ next
    → find test (range_with_len next (span.end - next)) ≡ find test (range_with_len (k + 1) (span.end - (k + 1)))
    → None ≡ next_such test span k
next_missing test span k next le same =
    let none : span.end - next ≡ 0 = omega arith in
    ap (option_map (address span)) (ap (λ n. find test (range_with_len next n)) (sym none) ∙ same)
