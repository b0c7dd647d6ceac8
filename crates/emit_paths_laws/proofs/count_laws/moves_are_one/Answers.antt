use Rattle.jvm_definition.specs.Step.{jvm_turn}
use Rattle.emit_paths_laws.proofs.Standing.{advanced_same}
use Rattle.emit_paths_laws.proofs.count_laws.moves_are_one.Goals as goal

pub returns : goal.returns
returns c program words n s = advanced_same (jvm_turn program words) n s
