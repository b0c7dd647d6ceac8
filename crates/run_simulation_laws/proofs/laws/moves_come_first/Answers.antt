use Rattle.run_definition.specs.Answer.{next_answer}
use Rattle.run_simulation_laws.proofs.Passing.{advanced_add, moved_add}
use Rattle.run_simulation_laws.proofs.Reaching.{reached_moved}
use Rattle.run_simulation_laws.proofs.laws.moves_come_first.Goals as goal

pub returns : goal.returns
returns g c turn n s t comes = record {
  moves = λ m. advanced_add turn n m s t comes;
  steps = λ m. moved_add turn n m s t comes;
  runs = λ m answers. (reached_moved turn next_answer n s t answers comes).runs m;
  trails = λ m answers. (reached_moved turn next_answer n s t answers comes).goes m;
}
