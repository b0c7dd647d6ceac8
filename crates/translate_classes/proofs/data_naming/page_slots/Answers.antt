use Rattle.std.proofs.Common.{map, take, ◌+◌, sym, subst, arith}
use Rattle.std.specs.List.{AllZip}
use Rattle.translate_classes.proofs.ClassMaking.MakingLemmas.{adds-nothing}
use Rattle.translate_classes.specs.Pages.{IsPageSlot, page_of}
use Rattle.translate_classes.proofs.DataClasses.NameLemmas.{slots-more}
use Rattle.translate_classes.proofs.data_naming.page_slots.Goals as goal

pub loop-k-preserved : goal.loop-k-preserved
loop-k-preserved c =
    let old = c.loop-k.class in
    let new = c.page_slot.new.class in
    let k = c.loop-k.k in
    let there = c.in_ok-page_slot.ensures.there in
    let grown = c.in_ok-page_slot.ensures.grown in (
      subst (λ slots. AllZip (IsPageSlot new.pool) slots (map page_of (take (k + 1) c.args.pages.now))) (sym c.in_ok-push.ensures.items)
          (slots-more old.pool new.pool grown.pool c.loop-k.slots.items c.args.pages.now k _ c.in_ok-page_slot.field-0 c.loop-k-test.true
          c.loop-k.invariant.0 there),
      adds-nothing c.args.class.now old new c.loop-k.invariant.1 grown,
      omega (arith, c.loop-k.invariant.2, c.in_ok-page_slot.ensures.few),
    )
