use Rattle.std.proofs.Common.{◌≡◌, length}
use Rattle.class_definition.specs.Switches.{is_padding}
use Rattle.jvm_code.proofs.switch_reading.is_padding.Given as goal

abbrev pub invariant-loop-byte : goal.invariant-loop-byte
invariant-loop-byte l = is_padding l.rest ≡ is_padding l.bytes

abbrev pub decreases-loop-byte : goal.decreases-loop-byte
decreases-loop-byte l = length l.rest
