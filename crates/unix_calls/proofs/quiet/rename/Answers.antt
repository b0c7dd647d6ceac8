use Rattle.std.proofs.Common.{ap, sym, ◌∙◌}
use Rattle.run_definition.specs.Question.{asked}
use Rattle.unix_definition.specs.System.{system_with_tables}
use Rattle.unix_system.specs.Paths.{text_of}
use Rattle.unix_definition.specs.Calls.{rename}
use Rattle.unix_definition.specs.Unix.{unix}
use Rattle.unix_calls.proofs.CallLemmas.{is-rename, path-of-14, second-of-14, answered-back}
use Rattle.unix_calls.proofs.quiet.rename.Goals as goal

pub returns : goal.returns
returns g c s =
    let m = g.M.View.memory (g.M.View.content c.args.view.now) in
    let call = c.args.call.now in
    let before = system_with_tables s c.args.disk.now c.args.opened.now in
    answered-back c.rename.result (unix before (asked call m)) (system_with_tables s c.rename.new.disk c.args.opened.now) c.rename.type_inv
    (is-rename before (asked call m) c.requires
    ∙ (ap (λ t. rename before t (asked call m).second) (path-of-14 m call c.requires ∙ sym c.read_path-old.ensures.text)
    ∙ (ap (λ t. rename before (text_of c.read_path-old.result) t) (second-of-14 m call c.requires ∙ sym c.read_path-new.ensures.text) ∙ c.rename.ensures s)))
