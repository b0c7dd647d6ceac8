use Rattle.std.proofs.Common.{take}
use Rattle.class_names.specs.MemberMap.{IsMemberMap}
use Rattle.class_names.proofs.members.numbers_of.Given as goal

abbrev pub invariant-loop-i : goal.invariant-loop-i
invariant-loop-i l = IsMemberMap (take l.i l.keys) l.numbers.entries
