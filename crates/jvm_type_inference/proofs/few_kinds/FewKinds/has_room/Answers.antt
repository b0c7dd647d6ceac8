use Rattle.std.proofs.Common.{◌≡◌, ◌<◌, length, min, sym, ap, ◌∙◌, arith}
use Rattle.std.proofs.lemmas.Bool.{ltb-true}
use Rattle.std.proofs.lemmas.List.{length-take}
use Rattle.jvm_type_inference.proofs.few_kinds.FewKinds.has_room.Goals as goal

pub returns : goal.returns
returns c is =
    let k = c.self.inside in
    let counted : length c.args.self.now ≡ min k.count (length k.kinds) = ap length (sym c.self.view_is) ∙ length-take k.count k.kinds in
    let less : c.from.result < 30 = ltb-true c.from.result 30 is in
    omega (arith, counted, less, c.from.ensures)
