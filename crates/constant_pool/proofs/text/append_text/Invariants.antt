use Rattle.std.proofs.Common.{◌≡◌, ◌++◌, take}
use Rattle.class_definition.specs.Utf8.{text_bytes}
use Rattle.constant_pool.proofs.text.append_text.Given as goal

abbrev pub invariant-loop-character : goal.invariant-loop-character
invariant-loop-character l = l.bytes.items ≡ l.initial.bytes.items ++ text_bytes (take l.character-index l.text)
