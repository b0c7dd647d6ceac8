use Rattle.std.proofs.Common.{◌≡◌, ◌-◌}
use Rattle.class_definition.specs.NameGrammar.{after_parameters}
use Rattle.constant_pool.proofs.names.after_parameters.Given as goal

abbrev pub invariant-loop : goal.invariant-loop
invariant-loop l = after_parameters (255 - l.counter) l.rest ≡ after_parameters 255 l.text
