use Rattle.std.proofs.Common.{arith}
use Rattle.int_region.proofs.KeptLemmas.{live_room, value_kept}
use Rattle.int_region.proofs.region.Region.get.Goals as goal

pub index-requires : goal.index-requires
index-requires c =
    let s = c.self.inside in
    let within = rw (← c.self.view_is) at c.requires.within in
    omega (arith, s.words.ok.0, within, live_room s.words.items s.used c.args.p.0 c.self.invariant (rw (← c.self.view_is) at c.requires.live))

pub returns : goal.returns
returns c =
    let s = c.self.inside in
    rw (← c.self.view_is)
    (value_kept s.words.items s.used c.args.p.0 c.args.i _ c.self.invariant (rw (← c.self.view_is) at c.requires.live) (rw (← c.self.view_is) at c.requires.within) c.index.ensures)
