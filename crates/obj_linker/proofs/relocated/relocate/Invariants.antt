use Rattle.std.proofs.Common.{◌≡◌, length}
use Rattle.obj_linker.specs.Sites.{first_far, relocated}
use Rattle.obj_linker.proofs.relocated.relocate.Given as goal

-- what is left gives the image, and the first site that is out of reach
abbrev pub invariant-loop-site : goal.invariant-loop-site
invariant-loop-site l = record {
  bytes : relocated l.image l.rest ≡ relocated l.fn.image l.sites;
  passed : first_far l.image l.rest ≡ first_far l.fn.image l.sites;
}

abbrev pub decreases-loop-site : goal.decreases-loop-site
decreases-loop-site l = length l.rest
