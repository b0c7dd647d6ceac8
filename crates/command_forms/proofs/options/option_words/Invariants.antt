use Rattle.std.proofs.Common.{◌≡◌, ◌++◌, length, false, map, string_bytes}
use Rattle.command_forms.specs.Word.{texts}
use Rattle.command_forms.specs.Given.{option_words}
use Rattle.command_forms.proofs.options.option_words.Given as goal

abbrev pub invariant-loop-word : goal.invariant-loop-word
invariant-loop-word l = map string_bytes l.options.items ++ option_words l.follows (texts l.rest) ≡ option_words false (texts l.words)

abbrev pub decreases-loop-word : goal.decreases-loop-word
decreases-loop-word l = length l.rest
