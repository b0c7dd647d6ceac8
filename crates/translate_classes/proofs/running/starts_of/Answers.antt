use Rattle.std.proofs.Common.{◌++◌, ◌∷◌, [], length, ap, sym, ◌∙◌, arith}
use Rattle.std.proofs.lemmas.List.{length_push}
use Rattle.std.proofs.lemmas.List.FromFn.{map-range_with_len_more}
use Rattle.translate_classes.specs.Code.{start_at, starts_of}
use Rattle.translate_classes.proofs.running.starts_of.Goals as goal

pub loop-k-preserved : goal.loop-k-preserved
loop-k-preserved c =
    let starts = c.loop-k.starts.items in
    let k = c.loop-k.k in
    let plan = start_at c.args.part.now c.args.spans.now c.args.first_method in
    let next = c.start_at.result in
    let pushed = c.in_ok-push.ensures.items in (
      pushed ∙ ap (λ l. l ++ next ∷ []) c.loop-k.invariant.0
          ∙ ap (λ s. starts_of c.args.part.now c.args.spans.now c.args.first_method k ++ s ∷ []) c.start_at.ensures
          ∙ sym (map-range_with_len_more plan 0 k k (omega arith)),
      ap length pushed ∙ omega (arith, length_push starts next, c.loop-k.invariant.1),
    )
