use Rattle.class_names.proofs.KeyLemmas.{numbered_push, classes_push}
use Rattle.class_names.proofs.numbered.Numbered.new.Goals as goal

pub loop-class-preserved : goal.loop-class-preserved
loop-class-preserved c = record {
  same =
      classes_push c.loop-class.numbered.items c.push.new.self.items c.in_ok-next.next c.args.classes.now c.loop-class.class-index c.class-item.result c.in_ok-push.ensures.items
      c.loop-class.invariant.same c.in_ok-next.ensures.class c.loop-class-test.true c.class-item.is;
  texts = c.in_ok-next.ensures.texts;
  numbered =
      numbered_push c.loop-class.texts.keys c.numbered_class.new.texts.keys c.in_ok-next.ensures.kept c.loop-class.numbered.items c.push.new.self.items c.in_ok-next.next c.in_ok-push.ensures.items
      c.loop-class.invariant.numbered c.in_ok-next.ensures.numbered;
}
