use Rattle.std.proofs.Common.{◌≡◌, ◌+◌, length}
use Rattle.command_forms.specs.Word.{texts}
use Rattle.command_forms.specs.Given.{value_place}
use Rattle.command_forms.proofs.place.value_place.Given as goal

abbrev pub invariant-loop-word : goal.invariant-loop-word
invariant-loop-word l = record {
  count : l.place + length l.rest ≡ length l.words;
  same : l.place + value_place l.name (texts l.rest) ≡ value_place l.name (texts l.words);
}

abbrev pub decreases-loop-word : goal.decreases-loop-word
decreases-loop-word l = length l.rest
