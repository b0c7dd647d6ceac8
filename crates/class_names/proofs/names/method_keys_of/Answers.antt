use Rattle.std.proofs.lemmas.List.{length-map}
use Rattle.class_names.specs.Keys.{own_key, method_keys}
use Rattle.class_names.proofs.KeptLemmas.{kept_methods}
use Rattle.class_names.proofs.FaultLemmas.{keys_more, few_more}
use Rattle.class_names.proofs.names.method_keys_of.Goals as goal

pub loop-class-preserved : goal.loop-class-preserved
loop-class-preserved c =
    let x = c.class-item.result in
    let old = c.loop-class.keys.items in
    let new = c.push_method_keys.new.keys.items in
    record {
      keys = keys_more method_keys old new c.args.classes.now c.loop-class.class-index x c.loop-class-test.true c.class-item.is c.loop-class.invariant.keys c.in_ok-push_method_keys.ensures;
      few = few_more old new (method_keys x) c.loop-class.class-index _ c.loop-class.invariant.few (kept_methods x.class.now x.kept) (length-map x.class.now.methods (λ m. own_key x m.name m.desc)) c.in_ok-push_method_keys.ensures;
    }
