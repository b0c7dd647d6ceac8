use Rattle.std.proofs.Common.{◌≤◌, ◌++◌, ◌∷◌, [], All, length, ap, sym, ◌∙◌, arith, subst}
use Rattle.std.proofs.lemmas.List.{length_push}
use Rattle.std.proofs.lemmas.List.Elements.{All-push}
use Rattle.std.proofs.lemmas.List.FromFn.{map-range_with_len_more}
use Rattle.translate_program.specs.Spans.{weight_at, weights_of}
use Rattle.translate_program.proofs.spans.weights_of.Goals as goal

pub loop-k-preserved : goal.loop-k-preserved
loop-k-preserved c =
    let weights = c.loop-k.weights.items in
    let k = c.loop-k.k in
    let next = c.weight_at.result in
    let pushed = c.in_ok-push.ensures.items in (
      pushed ∙ ap (λ l. l ++ next ∷ []) c.loop-k.invariant.0 ∙ ap (λ w. weights_of c.args.part.now k ++ w ∷ []) c.weight_at.ensures.value
          ∙ sym (map-range_with_len_more (weight_at c.args.part.now) 0 k k (omega arith)),
      ap length pushed ∙ omega (arith, length_push weights next, c.loop-k.invariant.1),
      subst (All (λ w. w ≤ 540)) (sym pushed) (All-push (λ w. w ≤ 540) weights next c.loop-k.invariant.2 c.weight_at.ensures.bound),
    )
