use Rattle.std.proofs.Common.{◌+◌, drop, ap, ◌∙◌}
use Rattle.std.proofs.lemmas.List.{take_rest}
use Rattle.delay_slots.specs.declared.unit.Unit.TheVariants.{Call}
use Rattle.delay_slots.specs.Units.{unit_of}
use Rattle.delay_slots.proofs.PartLemmas.{unit_there}
use Rattle.delay_slots.proofs.range_units.unit_at.Goals as goal

pub returns : goal.returns
returns c =
    c.unit.ensures
    ∙ ap (unit_of c.decode.result) (take_rest c.args.words.now (c.args.k + 1))
    ∙ ap (λ i. unit_of i (drop (c.args.k + 1) c.args.words.now)) c.decode.ensures
    ∙ unit_there c.args.words.now c.args.k Call c.requires
