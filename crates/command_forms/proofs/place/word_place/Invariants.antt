use Rattle.std.proofs.Common.{◌≡◌, ◌+◌, length, false}
use Rattle.command_forms.specs.Word.{texts}
use Rattle.command_forms.specs.Given.{word_place}
use Rattle.command_forms.proofs.place.word_place.Given as goal

abbrev pub invariant-loop-word : goal.invariant-loop-word
invariant-loop-word l = record {
  count : l.place + length l.rest ≡ length l.words;
  same : l.place + word_place l.follows (texts l.rest) ≡ word_place false (texts l.words);
}

abbrev pub decreases-loop-word : goal.decreases-loop-word
decreases-loop-word l = length l.rest
