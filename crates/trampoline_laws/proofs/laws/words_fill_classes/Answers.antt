use Rattle.trampoline_laws.proofs.TrampolineLaws.Words.{word-within, word-only, first-low, end-low}
use Rattle.trampoline_laws.proofs.laws.words_fill_classes.Goals as goal

pub returns : goal.returns
returns c a is = record {
  within = word-within a is;
  only = word-only a is;
  first_low = first-low a is;
  end_low = end-low a is;
}
