use Rattle.std.proofs.Common.{arith}
use Rattle.int_region.proofs.KeptLemmas.{live_room, contents_of-put, IsKept-put}
use Rattle.int_region.proofs.region.Region.put.Goals as goal

pub index_mut-requires : goal.index_mut-requires
index_mut-requires c =
    let s = c.self.inside in
    let within = rw (← c.self.view_is) at c.requires.within in
    omega (arith, s.words.ok.0, within, live_room s.words.items s.used c.args.p.0 c.self.invariant (rw (← c.self.view_is) at c.requires.live))

pub invariant_of-self : goal.invariant_of-self
invariant_of-self c =
    let s = c.self.inside in
    IsKept-put s.words.items s.used c.args.p.0 c.args.i c.args.v c.self.invariant (rw (← c.self.view_is) at c.requires.live) (rw (← c.self.view_is) at c.requires.within)

pub returns-clause-changed : goal.returns-clause-changed
returns-clause-changed c =
    let s = c.self.inside in
    rw (← c.self.view_is)
    (contents_of-put s.words.items s.used c.args.p.0 c.args.i c.args.v c.self.invariant (rw (← c.self.view_is) at c.requires.live) (rw (← c.self.view_is) at c.requires.within))

pub returns-clause-sound : goal.returns-clause-sound
returns-clause-sound c =
    let s = c.self.inside in
    (IsKept-put s.words.items s.used c.args.p.0 c.args.i c.args.v c.self.invariant (rw (← c.self.view_is) at c.requires.live) (rw (← c.self.view_is) at c.requires.within)).sound
