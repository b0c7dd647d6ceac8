use Rattle.obj_linker.proofs.PairLemmas.{set_in}
use Rattle.obj_linker.proofs.lower_halves.LowerHalves.set.Goals as goal

pub returns : goal.returns
returns c =
    set_in c.args.section c.args.symbol c.self.inside.offsets c.insert.new.self c.args.offset c.args.self.now c.in_ok-insert.ensures.updates c.self.view_is
