use Rattle.std.proofs.Common.{ap, ◌∙◌}
use Rattle.obj_linker.specs.Pairs.{low_in}
use Rattle.obj_linker.proofs.PairLemmas.{found_in}
use Rattle.obj_linker.proofs.lower_halves.LowerHalves.get.Goals as goal

pub returns : goal.returns
returns c =
    c.copied.ensures ∙ c.get.ensures.value ∙ found_in c.self.inside.offsets c.args.section c.args.symbol
    ∙ ap (λ lows. low_in lows c.args.section c.args.symbol) c.self.view_is
