use Rattle.std.proofs.Common.{◌≡◌, ◌*◌, ◌≤◌, length, take}
use Rattle.class_definition.specs.Utf8.{text_bytes}
use Rattle.constant_pool.proofs.text.text_size.Given as goal

abbrev pub invariant-loop-character : goal.invariant-loop-character
invariant-loop-character l =
    (l.size ≡ length (text_bytes (take l.character-index l.text))) × (l.size ≤ 3 * l.character-index)
