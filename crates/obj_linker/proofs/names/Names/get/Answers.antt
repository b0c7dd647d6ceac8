use Rattle.std.proofs.Common.{ap, ◌∙◌, unwrap_or}
use Rattle.obj_linker.specs.Known.{known_in, unknown}
use Rattle.obj_linker.proofs.names.Names.get.Goals as goal

pub returns : goal.returns
returns c =
    c.unwrap_or.ensures ∙ ap (λ d. unwrap_or c.copied-known.result d) c.unknown.ensures
    ∙ ap (λ o. unwrap_or o unknown) (c.copied-known.ensures ∙ c.get.ensures.value)
    ∙ ap (λ names. known_in names c.args.name) c.self.view_is
