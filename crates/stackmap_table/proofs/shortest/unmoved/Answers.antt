use Rattle.std.proofs.Common.{◌≡◌, [], ◌∷◌, length, true, sym, ap, ◌∙◌, arith}
use Rattle.std.proofs.lemmas.Bool.{eq-eqb, eqb-true, true≢false}
use Rattle.std.proofs.lemmas.List.{nil_from_length}
use Rattle.jvm_definition.specs.Typing.{no_top}
use Rattle.stackmap_table.proofs.GivesLaws.{wide-slots-of}
use Rattle.stackmap_table.proofs.ChosenLaws.{chosen-same, chosen-operand, form-full, not-same}
use Rattle.stackmap_table.proofs.shortest.unmoved.Goals as goal

pub returns-in_default-clause-shortest : goal.returns-in_default-clause-shortest
returns-in_default-clause-shortest c pool slots delta refs small =
    let a = c.args in
    chosen-same pool slots refs (wide-slots-of pool slots refs) a.before.now a.locals.now a.stack.now delta (omega (arith, small)) c.requires.same (nil_from_length a.stack.now c.in_default.ensures.cases)

pub returns-then-not-is_empty-clause-shortest : goal.returns-then-not-is_empty-clause-shortest
returns-then-not-is_empty-clause-shortest c =
    let a = c.args in
    let r = c.requires in
    let some : length c.in-Some.others.now ≡ 0 → ⊥ = λ e. true≢false (sym (eq-eqb (length c.in-Some.others.now) 0 e) ∙ sym c.if-not-is_empty.ensures) in
    form-full a.before.now a.locals.now a.stack.now r.few_locals r.few_operands r.locals r.operands
    (not-same a.before.now a.locals.now a.stack.now r.same (omega (arith, ap length c.in-Some.ensures.cases.0, some)))

pub returns-clause-shortest : goal.returns-clause-shortest
returns-clause-shortest c pool slots delta refs small =
    let a = c.args in
    let k = c.in-Some.operand.now in
    let none : c.in-Some.others.now ≡ [] = nil_from_length c.in-Some.others.now (eqb-true (length c.in-Some.others.now) 0 (sym c.if-not-is_empty.ensures)) in
    let one : a.stack.now ≡ k ∷ [] = c.in-Some.ensures.cases.0 ∙ ap (λ x. k ∷ x) none in
    let typed : no_top (k ∷ []) ≡ true = ap no_top (sym one) ∙ c.requires.operands in
    chosen-operand pool slots refs (wide-slots-of pool slots refs) a.before.now a.locals.now a.stack.now delta (omega (arith, small)) k c.requires.same one typed
