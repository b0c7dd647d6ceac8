use Rattle.std.proofs.Common.{length}
use Rattle.type_verifier.proofs.VerifyLaws.{IsLooking}
use Rattle.type_verifier.proofs.verification.refusal.Given as goal

abbrev pub invariant-loop-c : goal.invariant-loop-c
invariant-loop-c l = IsLooking l.classes l.rest l.number l.method

abbrev pub decreases-loop-c : goal.decreases-loop-c
decreases-loop-c l = length l.rest
