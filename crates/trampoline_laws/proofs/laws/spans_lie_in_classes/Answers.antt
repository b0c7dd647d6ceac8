use Rattle.trampoline_laws.proofs.TrampolineLaws.Words.{span-in, span-end}
use Rattle.trampoline_laws.proofs.laws.spans_lie_in_classes.Goals as goal

pub returns : goal.returns
returns c a j is below =
    let inside = span-in a is j below in
    record { some = inside.some; within = inside.to; in_range = span-end a is j below }
