use Rattle.std.proofs.Common.{◌≡◌, length}
use Rattle.class_definition.specs.Utf8.{text_from, text_of_bytes, IsPartial}
use Rattle.constant_pool.specs.Answer.{whole_text}
use Rattle.constant_pool.proofs.text_reading.read_text.Given as goal

abbrev pub invariant-loop-byte : goal.invariant-loop-byte
invariant-loop-byte l =
    IsPartial l.partial × (whole_text l.text.items (text_from l.partial l.rest) ≡ text_of_bytes l.bytes)

abbrev pub decreases-loop-byte : goal.decreases-loop-byte
decreases-loop-byte l = length l.rest
