use Rattle.std.proofs.Common.{ap}
use Rattle.int_region.proofs.KeptLemmas.{contents_of-taken, IsKept-taken, used_of}
use Rattle.int_region.proofs.region.Region.release.Goals as goal

pub invariant_of-self : goal.invariant_of-self
invariant_of-self c =
    let s = c.self.inside in
    let mark = rw (← c.self.view_is) at c.requires in
    IsKept-taken s.words.items s.used mark.0 c.args.m.0 mark.1 c.self.invariant

pub returns-clause-kept : goal.returns-clause-kept
returns-clause-kept c =
    let s = c.self.inside in
    rw (← c.self.view_is)
    (λ k uses. ap (λ r. r.arrays) (contents_of-taken s.words.items s.used k c.args.m.0 uses c.self.invariant))

pub returns-clause-used : goal.returns-clause-used
returns-clause-used c =
    let s = c.self.inside in
    let mark = rw (← c.self.view_is) at c.requires in
    used_of s.words.items c.args.m.0 (IsKept-taken s.words.items s.used mark.0 c.args.m.0 mark.1 c.self.invariant)

pub returns-clause-sound : goal.returns-clause-sound
returns-clause-sound c =
    let s = c.self.inside in
    let mark = rw (← c.self.view_is) at c.requires in
    (IsKept-taken s.words.items s.used mark.0 c.args.m.0 mark.1 c.self.invariant).sound
