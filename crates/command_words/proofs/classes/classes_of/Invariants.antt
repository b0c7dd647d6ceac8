use Rattle.std.proofs.Common.{◌≡◌, ◌++◌, length, option_map}
use Rattle.command_words.specs.Meaning.{classes_of}
use Rattle.command_words.proofs.classes.classes_of.Given as goal

abbrev pub invariant-loop-word : goal.invariant-loop-word
invariant-loop-word l = option_map (λ more. l.classes.items ++ more) (classes_of l.rest) ≡ classes_of l.words

abbrev pub decreases-loop-word : goal.decreases-loop-word
decreases-loop-word l = length l.rest
