use Rattle.std.proofs.Common.{◌∙◌, sym, ap}
use Rattle.std.proofs.lemmas.Result.{IfOk-weaker}
use Rattle.std.proofs.lemmas.List.Sorted.{list_any-IsPermutation}
use Rattle.elf_reader.specs.Spans.{are_within}
use Rattle.elf_reader.proofs.SpanLemmas.{filled_moved}
use Rattle.elf_reader.proofs.reach.rising.Goals as goal

pub returns-clause-same : goal.returns-clause-same
returns-clause-same c =
    IfOk-weaker c.reaching.result _ _
    (λ v same first behind some. same first behind some
    ∙ ap (are_within first behind) c.as_slice.ensures.value
    ∙ sym (list_any-IsPermutation _ c.args.spans.items _ c.in_ok-sorted.ensures.same))
    c.reaching.ensures.same

pub returns-clause-filled : goal.returns-clause-filled
returns-clause-filled c =
    IfOk-weaker c.reaching.result _ _
    (λ v keeps filled. keeps (filled_moved c.args.spans.items c.in_ok-sorted.sorted.items _ c.in_ok-sorted.ensures.same c.as_slice.ensures.value filled))
    c.reaching.ensures.filled
