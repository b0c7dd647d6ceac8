use Rattle.std.proofs.Common.{◌≡◌, ◌++◌, length}
use Rattle.class_definition.specs.Format.{chain_spelling}
use Rattle.class_definition.specs.Targets.{wide}
use Rattle.jvm_code.proofs.switch_writing.append_targets.Given as goal

abbrev pub invariant-loop-target : goal.invariant-loop-target
invariant-loop-target l =
    l.code.items ++ chain_spelling {S = Unit {0}} (λ _ _. wide l.at) (λ s _. s) tt l.rest
    ≡ l.fn.code.items ++ chain_spelling {S = Unit {0}} (λ _ _. wide l.at) (λ s _. s) tt l.targets

abbrev pub decreases-loop-target : goal.decreases-loop-target
decreases-loop-target l = length l.rest
