use Rattle.std.proofs.Common.{ℕ, zero, suc, ◌<◌, List, [], ◌∷◌, get_or, subst, sym, arith}
use Rattle.std.specs.List.{All}
use Rattle.std.proofs.lemmas.List.Elements.{All-append}
use Rattle.jvm_definition.specs.declared.linked_method.LinkedMethod.{LinkedMethod}
use Rattle.jvm_code.specs.Order.{IsInOrder}
use Rattle.std.proofs.lemmas.Grind.{common_steps}
use Rattle.jvm_link.proofs.MethodLemmas.{sound_code}
use Rattle.jvm_link.proofs.methods.push_methods.Goals as goal

pub linked_method-requires-clause-sound : goal.linked_method-requires-clause-sound
linked_method-requires-clause-sound c =
    sound_code c.args.class.now.class.now c.args.class.now.kept c.as_slice-method-items.result.now c.as_slice-method-items.ensures c.loop-method.method-index c.method-item.result c.loop-method-test.true c.method-item.is

one_laid : (m : LinkedMethod) → IsInOrder m → (k : ℕ) (d : LinkedMethod) → k < 1 → IsInOrder (get_or (m ∷ []) k d)
one_laid m h zero d less = h
one_laid m h (suc k) d less = absurd (omega (arith, less))

pub loop-method-preserved : goal.loop-method-preserved
loop-method-preserved c = record {
  methods = grind (arith, common_steps);
  laid = subst (λ (ms : List LinkedMethod). All IsInOrder ms) (sym c.in_ok-push.ensures.items) (All-append IsInOrder c.loop-method.methods.items (c.in_ok-linked.linked ∷ []) c.loop-method.invariant.laid (one_laid c.in_ok-linked.linked c.in_ok-linked.ensures.laid));
}
