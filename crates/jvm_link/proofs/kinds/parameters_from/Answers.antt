use Rattle.std.proofs.Common.{◌≡◌, ◌-◌, ◌+◌, [], ◌∷◌, ◌++◌, ◌∙◌, suc, refl, sym, ap, arith}
use Rattle.jvm_definition.specs.declared.kind.Kind.{Kind}
use Rattle.class_definition.specs.Linking.{parameters_from}
use Rattle.jvm_link.proofs.ParameterLemmas.{kinds_more, kinds_end, kinds_done}
use Rattle.jvm_link.proofs.kinds.parameters_from.Goals as goal

pub loop-init : goal.loop-init
loop-init c = ap (λ ks. ks) (rw c.new-kinds.ensures.items refl)

pub returns-in-None : goal.returns-in-None
returns-in-None c =
    let k : 255 - c.loop.counter ≡ suc (254 - c.loop.counter) = omega arith in
    kinds_end (255 - c.loop.counter) (254 - c.loop.counter) c.loop.kinds.items c.loop.rest.now (parameters_from 255 c.args.text.now) k (sym c.in-None.ensures) c.loop.invariant

pub loop-preserved : goal.loop-preserved
loop-preserved c =
    let k : 255 - c.loop.counter ≡ suc (255 - (c.loop.counter + 1)) = omega arith in
    let made = ap (λ (kind : Kind). c.loop.kinds.items ++ kind ∷ []) c.front_kind.ensures in
    kinds_more (255 - c.loop.counter) (255 - (c.loop.counter + 1)) c.loop.kinds.items c.push.new.self.items c.loop.rest.now c.in-Some.behind.now (parameters_from 255 c.args.text.now) k (sym c.in-Some.ensures)
    c.loop.invariant (c.in_ok-push-in-Some.ensures.items ∙ made)

pub returns : goal.returns
returns c =
    let k : 255 - c.loop.counter ≡ 0 = omega arith in
    kinds_done (255 - c.loop.counter) c.loop.kinds.items c.loop.rest.now (parameters_from 255 c.args.text.now) k c.loop.invariant
