use Rattle.std.proofs.Common.{◌≡◌, ◌++◌, length}
use Rattle.class_definition.specs.Format.{chain_spelling}
use Rattle.class_definition.specs.Switches.{pair}
use Rattle.jvm_code.proofs.switch_writing.append_pairs.Given as goal

abbrev pub invariant-loop-pair : goal.invariant-loop-pair
invariant-loop-pair l =
    l.code.items ++ chain_spelling {S = Unit {0}} (λ _ _. pair l.at) (λ s _. s) tt l.rest
    ≡ l.fn.code.items ++ chain_spelling {S = Unit {0}} (λ _ _. pair l.at) (λ s _. s) tt l.pairs

abbrev pub decreases-loop-pair : goal.decreases-loop-pair
decreases-loop-pair l = length l.rest
