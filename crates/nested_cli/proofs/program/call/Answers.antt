use Rattle.command_forms.specs.Word.{texts}
use Rattle.std.proofs.Common.{List, refl, subst, ℕ}
use Rattle.command_deeds.proofs.DeedLemmas.{same_shelf}
use Rattle.command_deeds.specs.Ends.{ended, final}
use Rattle.command_deeds.specs.Line.{answer_line}
use Rattle.command_deeds.specs.World.{output_seen, seen, world}
use Rattle.command_deeds.specs.declared.done.Done.{Done}
use Rattle.nested_cli.specs.Line.{Tells}
use Rattle.nested_cli.proofs.AnswerLemmas.{does}
use Rattle.nested_cli.proofs.program.call.Goals as goal

pub returns-clause-does : goal.returns-clause-does
returns-clause-does g c =
    let end = ended c.perform-end.result in
    let w = seen g.H.Shelf g.S.Source g.O.Sink g.E.Sink c.args.outside.now in
    let u = seen g.H.Shelf g.S.Source g.O.Sink g.E.Sink c.perform-end.new.outside in
    let v = world u.shelf u.input u.out (output_seen g.E.Sink c.tell.new.err) in
    let d = c.answer_of-done.ensures in
    let named = subst (λ (done : Done). Tells (answer_line c.answer_of-done.result.1.now done) u.err v.err done c.tell.result) d.done c.tell.ensures.tells in
    let told = subst (λ (name : List ℕ). Tells (answer_line name (final end).done) u.err v.err (final end).done c.tell.result) d.name named in
    does (texts c.args.words.now) c.args.moment w u v end c.tell.result c.perform-end.ensures.usage c.perform-end.ensures.due
    (same_shelf u.shelf, refl, refl, told)
