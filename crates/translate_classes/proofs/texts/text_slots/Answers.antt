use Rattle.std.proofs.Common.{◌+◌, map, sym, subst, arith}
use Rattle.std.specs.List.{AllZip, range_with_len}
use Rattle.emit_classes.specs.Named.{IsTextAt}
use Rattle.translate_classes.proofs.ClassMaking.MakingLemmas.{adds-nothing}
use Rattle.translate_classes.specs.Content.{share_text}
use Rattle.translate_classes.proofs.MainClasses.NameLemmas.{texts-more}
use Rattle.translate_classes.proofs.texts.text_slots.Goals as goal

pub loop-k-preserved : goal.loop-k-preserved
loop-k-preserved c =
    let old = c.loop-k.class in
    let new = c.text_slot.new.class in
    let k = c.loop-k.k in
    let runs = c.args.runs.now in
    let grown = c.in_ok-text_slot.ensures.grown in (
      subst (λ slots. AllZip (IsTextAt new.pool) slots (map (share_text runs) (range_with_len 0 (k + 1)))) (sym c.in_ok-push.ensures.items)
          (texts-more old.pool new.pool grown.pool c.loop-k.slots.items (share_text runs) k c.in_ok-text_slot.field-0 c.loop-k.invariant.0
          c.in_ok-text_slot.ensures.there),
      adds-nothing c.args.class.now old new c.loop-k.invariant.1 grown,
      omega (arith, c.loop-k.invariant.2, c.in_ok-text_slot.ensures.few),
    )
