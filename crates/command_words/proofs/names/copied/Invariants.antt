use Rattle.std.proofs.Common.{◌≡◌, map, string_bytes, take}
use Rattle.command_forms.specs.Answers.{shown}
use Rattle.command_words.proofs.names.copied.Given as goal

abbrev pub invariant-loop-name : goal.invariant-loop-name
invariant-loop-name l = map string_bytes l.texts.items ≡ shown (take l.name-index l.names)
