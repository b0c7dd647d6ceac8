use Rattle.std.proofs.Common.{◌≡◌, ◌++◌, true, length}
use Rattle.std.specs.Prelude.{flat_map}
use Rattle.std.specs.List.{list_all}
use Rattle.class_writer.specs.Written.{method_bytes, has_short_code}
use Rattle.class_writer.proofs.member_writing.append_methods.Given as goal

abbrev pub invariant-loop-method : goal.invariant-loop-method
invariant-loop-method l =
    (list_all has_short_code l.rest ≡ true) × (l.bytes.items ++ flat_map method_bytes l.rest ≡ l.fn.bytes.items ++ flat_map method_bytes l.methods)

abbrev pub decreases-loop-method : goal.decreases-loop-method
decreases-loop-method l = length l.rest
