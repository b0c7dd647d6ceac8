use Rattle.std.proofs.Common.{◌≡◌, ◌+◌, ◌≤◌, All, length, ap, ◌∙◌, sym, subst, arith}
use Rattle.std.proofs.lemmas.List.Elements.{All-weaker}
use Rattle.emit_steps.specs.Widths.{size}
use Rattle.method_splitter.specs.Cuts.{Cuts}
use Rattle.method_splitter.specs.declared.span.Span.{Span}
use Rattle.emit_spans.specs.Pieces.{flagged}
use Rattle.translate_classes.specs.Code.{code_of_span}
use Rattle.translate_classes.specs.Parts.{IsSpan}
use Rattle.translate_program.proofs.CodeFiles.SpanLemmas.{cut-within}
use Rattle.translate_program.proofs.Counts.SpanLemmas.{cut-few, cut-words}
use Rattle.translate_program.proofs.spans.spans_of.Goals as goal

pub returns-clause-within : goal.returns-clause-within
returns-clause-within c =
    let slice = c.as_slice.result.now in
    let e : 0 + length slice ≡ c.args.part.now.words = omega (arith, ap length c.as_slice.ensures.value, c.in_ok-weights.ensures.count) in
    subst (λ n. All (IsSpan n) c.in_ok-spans.spans.items) e
    (cut-within 0 slice c.get.result c.in_ok-spans.spans.items c.in_ok-spans.ensures.cuts)

pub returns-clause-few : goal.returns-clause-few
returns-clause-few c =
    let slice = c.as_slice.result.now in
    let small =
    subst (All (λ w. w ≤ 540)) (sym c.as_slice.ensures.value) c.in_ok-weights.ensures.bound in
    let most = cut-few 0 slice c.get.result c.in_ok-spans.spans.items (omega (arith, c.get.ensures.value, c.get.ensures.range.0)) small c.in_ok-spans.ensures.cuts c.in_ok-spans.ensures.fills in
    omega (arith, most, ap length c.as_slice.ensures.value, c.in_ok-weights.ensures.count, c.requires.few)

pub returns-clause-words : goal.returns-clause-words
returns-clause-words c =
    let all = cut-words 0 c.as_slice.result.now c.get.result c.in_ok-spans.spans.items c.in_ok-spans.ensures.cuts in
    omega (arith, all, ap length c.as_slice.ensures.value, c.in_ok-weights.ensures.count, c.requires.few)

pub returns-clause-sizes : goal.returns-clause-sizes
returns-clause-sizes c =
    let part = c.args.part.now in
    let limit = c.get.result in
    let spans = c.in_ok-spans.spans.items in
    let cuts = subst (λ w. Cuts 0 w limit spans) (c.as_slice.ensures.value ∙ c.in_ok-weights.ensures.value) c.in_ok-spans.ensures.cuts in
    let fits = c.divided_words_keep_to_the_limit.ensures part.metered part.units.now (flagged part.leads.now) part.start part.first part.words limit spans cuts in
    All-weaker (λ (s : Span). size (code_of_span part s) ≤ limit) (λ (s : Span). size (code_of_span part s) ≤ 65535)
    (λ s less. omega (arith, less, c.get.ensures.value, c.get.ensures.range.1)) spans fits
