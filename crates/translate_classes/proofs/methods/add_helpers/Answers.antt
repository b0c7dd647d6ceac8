use Rattle.std.proofs.Common.{length, ap, arith}
use Rattle.translate_classes.proofs.ClassMaking.MakingLemmas.{adds-none, adds-next}
use Rattle.translate_classes.specs.Main.{helper_plan}
use Rattle.translate_classes.specs.Main.{helper_plans}
use Rattle.translate_classes.proofs.Rooms.CountLemmas.{adds-count, plans-count}
use Rattle.translate_classes.proofs.methods.add_helpers.Goals as goal

pub loop-number-init : goal.loop-number-init
loop-number-init c = (adds-none c.args.class.now, omega arith)

pub loop-number-preserved : goal.loop-number-preserved
loop-number-preserved c = (
  adds-next c.args.class.now c.loop-number.class c.add_helper.new.class (helper_plan c.args.order c.args.references.now) c.loop-number.number
      c.loop-number.invariant.0 c.in_ok-add_helper.ensures.method,
  omega (arith, c.loop-number.invariant.1, c.in_ok-add_helper.ensures.few),
)

pub add_helper-requires-clause-few : goal.add_helper-requires-clause-few
add_helper-requires-clause-few c =
    let order = c.args.order in
    let r = c.args.references.now in
    omega (
      arith,
      adds-count c.args.class.now c.loop-number.class (helper_plans order r c.loop-number.number) c.loop-number.invariant.0,
      plans-count (helper_plan order r) c.loop-number.number,
      ap length c.requires.none,
    )

pub add_helper-requires-clause-room : goal.add_helper-requires-clause-room
add_helper-requires-clause-room c = omega (arith, c.requires.room, c.loop-number.invariant.1)
