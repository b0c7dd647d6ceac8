use Rattle.std.proofs.Common.{◌++◌, length}
use Rattle.class_writer.specs.Written.{framed_methods_bytes}
use Rattle.class_writer.proofs.MethodLemmas.{AreLeft}
use Rattle.class_writer.proofs.member_writing.append_framed_methods.Given as goal

abbrev pub invariant-loop-method : goal.invariant-loop-method
invariant-loop-method l =
    AreLeft l.name (l.fn.bytes.items ++ framed_methods_bytes l.name l.methods l.tables) l.bytes.items l.rest l.others

abbrev pub decreases-loop-method : goal.decreases-loop-method
decreases-loop-method l = length l.rest
