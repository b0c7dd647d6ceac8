use Rattle.jvm_definition.specs.Step.{jvm_turn}
use Rattle.jvm_definition_laws.proofs.Stretches.{stretch-add, advanced-add}
use Rattle.jvm_definition_laws.proofs.step_laws.stretches_compose.Goals as goal

pub returns : goal.returns
returns c program words n k = record {
  stretches = λ at lines w. stretch-add program words lines n k at w;
  turns = λ s. advanced-add (jvm_turn program words) n k s;
}
