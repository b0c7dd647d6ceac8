use Rattle.std.proofs.Common.{◌++◌, ◌∷◌, [], ap, sym, ◌∙◌, arith}
use Rattle.std.proofs.lemmas.List.FromFn.{map-range_with_len_more}
use Rattle.translate_program.specs.Classes.{span_info, span_infos}
use Rattle.translate_program.proofs.coding.span_infos.Goals as goal

pub loop-k-preserved : goal.loop-k-preserved
loop-k-preserved c =
    let k = c.loop-k.k in
    let info = span_info c.args.class c.args.part.now c.args.spans.now in
    c.in_ok-push.ensures.items
    ∙ ap (λ l. l ++ c.span_info.result ∷ []) c.loop-k.invariant
    ∙ ap (λ s. span_infos c.args.class c.args.part.now c.args.spans.now k ++ s ∷ []) c.span_info.ensures
    ∙ sym (map-range_with_len_more info 0 k k (omega arith))
