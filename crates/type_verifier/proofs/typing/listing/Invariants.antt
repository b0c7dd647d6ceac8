use Rattle.std.proofs.Common.{length}
use Rattle.type_verifier.proofs.TypingLaws.{IsListing}
use Rattle.type_verifier.proofs.typing.listing.Given as goal

abbrev pub invariant-loop-slot : goal.invariant-loop-slot
invariant-loop-slot l = IsListing l.fn.frames.items l.rest.items l.listed.items

abbrev pub decreases-loop-slot : goal.decreases-loop-slot
decreases-loop-slot l = length l.rest.items
