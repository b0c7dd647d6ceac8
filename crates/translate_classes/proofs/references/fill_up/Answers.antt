use Rattle.std.proofs.Common.{length, ap, sym, arith, subst}
use Rattle.std.proofs.lemmas.List.{length_push}
use Rattle.translate_classes.specs.Called.{BeginsWith}
use Rattle.translate_classes.proofs.MainClasses.CalledLemmas.{begins-itself, begins-more}
use Rattle.translate_classes.proofs.references.fill_up.Goals as goal

pub loop-slots-init : goal.loop-slots-init
loop-slots-init c = (begins-itself c.args.slots.now.items, c.requires)

pub loop-slots-preserved : goal.loop-slots-preserved
loop-slots-preserved c =
    let front = c.args.slots.now.items in
    let slots = c.loop-slots.slots.items in
    let pushed = c.in_ok-push.ensures.items in (
      subst (BeginsWith front) (sym pushed) (begins-more front slots 0 c.loop-slots.invariant.0),
      omega (arith, ap length pushed, length_push slots 0, c.loop-slots-test.true, c.len.ensures),
    )
