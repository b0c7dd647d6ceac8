use Rattle.std.proofs.Common.{◌≡◌, [], ◌∷◌, ◌++◌, length, ap, sym, ◌∙◌, true, false}
use Rattle.jvm_definition.specs.Typing.{below}
use Rattle.jvm_type_inference.proofs.CallLaws.{no-argument, other-argument, next-argument}
use Rattle.jvm_type_inference.proofs.stepping.takes_arguments.Goals as goal

pub returns-in_default-pop-clause-misses : goal.returns-in_default-pop-clause-misses
returns-in_default-pop-clause-misses c _ =
    let l = c.loop-kind in
    let is : l.wanted.now ≡ c.in-Some.others.now ++ c.in-Some.kind.now ∷ [] = c.in-Some.ensures.cases.0 in
    let misses : below c.in-Some-pop.operand c.in-Some.kind.now ≡ false = sym c.is_below.ensures ∙ c.if-is_below.false in
    sym l.invariant ∙ other-argument l.wanted.now c.in-Some.others.now c.in-Some.kind.now is l.stack c.in-Some-pop.operand c.pop.new.self c.in-Some-pop.ensures misses

pub returns-in_default-pop-2-clause-misses : goal.returns-in_default-pop-2-clause-misses
returns-in_default-pop-2-clause-misses c _ =
    let l = c.loop-kind in
    let is : l.wanted.now ≡ c.in-Some.others.now ++ c.in-Some.kind.now ∷ [] = c.in-Some.ensures.cases.0 in
    sym l.invariant ∙ no-argument l.wanted.now c.in-Some.others.now c.in-Some.kind.now is l.stack (ap length c.in_default-pop.ensures.0)

pub loop-kind-preserved : goal.loop-kind-preserved
loop-kind-preserved c =
    let l = c.loop-kind in
    let is : l.wanted.now ≡ c.in-Some.others.now ++ c.in-Some.kind.now ∷ [] = c.in-Some.ensures.cases.0 in
    let passes : below c.in-Some-pop.operand c.in-Some.kind.now ≡ true = sym c.is_below.ensures ∙ c.if-is_below.true in
    sym (next-argument l.wanted.now c.in-Some.others.now c.in-Some.kind.now is l.stack c.in-Some-pop.operand c.pop.new.self c.in-Some-pop.ensures passes) ∙ l.invariant
