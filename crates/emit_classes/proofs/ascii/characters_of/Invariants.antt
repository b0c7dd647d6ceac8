use Rattle.std.proofs.Common.{◌≡◌, take}
use Rattle.emit_classes.proofs.ascii.characters_of.Given as goal

abbrev pub invariant-loop-byte : goal.invariant-loop-byte
invariant-loop-byte l = l.characters.items ≡ take l.byte-index l.word
