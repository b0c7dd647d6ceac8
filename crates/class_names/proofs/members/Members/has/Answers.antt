use Rattle.std.proofs.Common.{◌∙◌, ap, is_some}
use Rattle.std.specs.List.{list_any}
use Rattle.class_names.specs.Keys.{same_key}
use Rattle.class_names.proofs.PlaceLemmas.{is_some-position}
use Rattle.class_names.proofs.members.Members.has.Goals as goal

pub returns : goal.returns
returns c =
    let test = same_key c.args.key.now in
    c.contains_key.ensures ∙ ap is_some (c.self.invariant c.args.key.now) ∙ is_some-position test c.self.inside.keys.items ∙ ap (list_any test) c.self.view_is
