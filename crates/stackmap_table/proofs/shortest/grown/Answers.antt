use Rattle.std.proofs.Common.{◌≡◌, ◌≤◌, length, sym, ap, ◌∙◌, arith}
use Rattle.std.proofs.lemmas.Bool.{eq-eqb, true≢false}
use Rattle.std.proofs.lemmas.List.{nil_from_length}
use Rattle.stackmap_table.specs.Shortest.{has_no_long}
use Rattle.stackmap_table.proofs.GivesLaws.{wide-slots-of, short-behind}
use Rattle.stackmap_table.proofs.ChosenLaws.{chosen-append, form-full, not-appended}
use Rattle.stackmap_table.proofs.shortest.grown.Goals as goal

pub returns-then-not-are_few-clause-shortest : goal.returns-then-not-are_few-clause-shortest
returns-then-not-are_few-clause-shortest c =
    let a = c.args in
    let r = c.requires in
    let none : length a.added.now ≡ 0 → ⊥ = λ e. true≢false (sym (eq-eqb (length a.added.now) 0 e) ∙ sym c.if-is_empty.ensures) in
    let some : 1 ≤ length a.added.now = omega (arith, none) in
    form-full a.before.now a.locals.now a.stack.now r.few_locals r.few_operands r.locals r.operands
    (not-appended a.before.now a.locals.now a.added.now a.stack.now r.added some (c.are_few.ensures.many c.if-not-are_few.true))

pub returns-clause-shortest : goal.returns-clause-shortest
returns-clause-shortest c pool slots delta refs small =
    let a = c.args in
    let none : length a.added.now ≡ 0 → ⊥ = λ e. true≢false (sym (eq-eqb (length a.added.now) 0 e) ∙ sym c.if-is_empty.ensures) in
    let some : 1 ≤ length a.added.now = omega (arith, none) in
    let few = c.are_few.ensures.few c.if-not-are_few.false in
    let empty = nil_from_length a.stack.now (c.are_few.ensures.empty c.if-not-are_few.false) in
    let short = short-behind a.before.now a.added.now (ap has_no_long (sym c.requires.added) ∙ c.requires.locals) in
    chosen-append pool slots refs (wide-slots-of pool slots refs) a.before.now a.locals.now a.stack.now delta (omega (arith, small)) a.added.now c.requires.added some few short empty
