use Rattle.std.proofs.Common.{rules, ◌≡◌, [], ◌∷◌, sym, ap, subst, ◌∙◌}
use Rattle.class_reader.proofs.ApartLaws.{AreApart, none-apart, one-apart, methods-apart, tables-apart}
use Rattle.class_reader.proofs.framed_parts.apart.Goals as goal

pub loop-method-init : goal.loop-method-init
loop-method-init c = rw (c.new-methods.ensures.items, c.new-tables.ensures.items) (none-apart c.args.framed.items)

pub loop-method-preserved : goal.loop-method-preserved
loop-method-preserved c =
    let l = c.loop-method in
    rw (c.in_ok-push.ensures.items, c.in_ok-push-2.ensures.items)
    (one-apart c.args.framed.items c.pop.new.self.items l.rest.items l.methods.items l.tables.items c.in-Some.method c.in-Some.table c.in-Some.ensures.items l.invariant)

pub returns-clause-methods : goal.returns-clause-methods
returns-clause-methods c =
    let l = c.loop-method in
    let none : l.rest.items ≡ [] = search (rules, c.in_default.ensures) in
    c.reverse.ensures.items ∙ methods-apart c.args.framed.items l.rest.items l.methods.items l.tables.items none l.invariant

pub returns-clause-tables : goal.returns-clause-tables
returns-clause-tables c =
    let l = c.loop-method in
    let none : l.rest.items ≡ [] = search (rules, c.in_default.ensures) in
    c.reverse-2.ensures.items ∙ tables-apart c.args.framed.items l.rest.items l.methods.items l.tables.items none l.invariant
