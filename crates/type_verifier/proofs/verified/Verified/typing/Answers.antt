use Rattle.std.proofs.Common.{◌≡◌, ◌+◌, sym, ap, ◌∙◌, Some}
use Rattle.std.specs.Prelude.{slice_get}
use Rattle.class_definition.specs.Linking.{program_of}
use Rattle.type_verifier.specs.Refusal.{methods_before}
use Rattle.type_verifier.proofs.VerifyLaws.{method-there}
use Rattle.type_verifier.proofs.TypingLaws.{number-within, least-not-failing}
use Rattle.type_verifier.proofs.verified.Verified.typing.Goals as goal

pub unreachable-requires : goal.unreachable-requires
unreachable-requires c =
    let l = c.args.self.now.linked in
    let number = methods_before l.classes c.args.class + c.args.method in
    let there = method-there l.methods number (number-within l.classes l.methods c.args.class c.args.method l.methods_are c.requires) in
    let is : (program_of l.classes).method number ≡ Some there.0 = ap (λ x. slice_get x number) (sym l.methods_are) ∙ there.1 in
    let fails = rw c.in-Fails.is at c.in_ok-listed.ensures in
    least-not-failing (program_of l.classes) there.0 c.in-Fails._at (c.args.self.now.typed number there.0 is) (fails there.0 is)
