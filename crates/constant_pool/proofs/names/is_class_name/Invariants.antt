use Rattle.std.proofs.Common.{◌≡◌, length, false}
use Rattle.class_definition.specs.NameGrammar.{is_name_from}
use Rattle.constant_pool.proofs.names.is_class_name.Given as goal

abbrev pub invariant-loop-c : goal.invariant-loop-c
invariant-loop-c l = is_name_from l.inside l.rest ≡ is_name_from false l.text

abbrev pub decreases-loop-c : goal.decreases-loop-c
decreases-loop-c l = length l.rest
