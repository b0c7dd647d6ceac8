use Rattle.std.proofs.Common.{ap, ◌∙◌, ◌==◌, cond, unwrap_or}
use Rattle.obj_linker.specs.Known.{known_in, unknown}
use Rattle.obj_linker.proofs.NameLemmas.{unwrapped}
use Rattle.obj_linker.proofs.names.Names.set.Goals as goal

pub returns : goal.returns
returns c = λ other.
    let t = c.args.name == other in
    ap (λ o. unwrap_or o unknown) (c.in_ok-insert.ensures.updates.0 other) ∙ unwrapped t c.args.known _
    ∙ ap (λ names. cond t c.args.known (known_in names other)) c.self.view_is
