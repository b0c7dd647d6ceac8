use Rattle.std.proofs.Common.{◌≡◌, map, string_bytes, take}
use Rattle.command_forms.specs.Word.{texts}
use Rattle.command_words.proofs.names.copied_words.Given as goal

abbrev pub invariant-loop-word : goal.invariant-loop-word
invariant-loop-word l = map string_bytes l.texts.items ≡ texts (take l.word-index l.words)
