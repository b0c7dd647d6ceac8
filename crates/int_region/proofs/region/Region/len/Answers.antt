use Rattle.std.proofs.Common.{arith}
use Rattle.int_region.proofs.KeptLemmas.{live_room, len_kept}
use Rattle.int_region.proofs.region.Region.len.Goals as goal

pub index-requires : goal.index-requires
index-requires c =
    let s = c.self.inside in
    omega (arith, s.words.ok.0, live_room s.words.items s.used c.args.p.0 c.self.invariant (rw (← c.self.view_is) at c.requires))

pub returns : goal.returns
returns c =
    let s = c.self.inside in
    rw (← c.self.view_is)
    (len_kept s.words.items s.used c.args.p.0 _ c.self.invariant (rw (← c.self.view_is) at c.requires) c.index.ensures)
