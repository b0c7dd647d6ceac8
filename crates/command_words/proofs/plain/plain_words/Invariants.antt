use Rattle.std.proofs.Common.{◌≡◌, ◌+◌, ◌++◌, length, false}
use Rattle.command_forms.specs.Word.{texts}
use Rattle.command_words.specs.Meaning.{plain_words}
use Rattle.command_words.proofs.plain.plain_words.Given as goal

abbrev pub invariant-loop-word : goal.invariant-loop-word
invariant-loop-word l = record {
  count : l.place + length l.rest ≡ length l.words;
  same : l.plain.items ++ plain_words l.follows l.place (texts l.rest) ≡ plain_words false 0 (texts l.words);
}

abbrev pub decreases-loop-word : goal.decreases-loop-word
decreases-loop-word l = length l.rest
