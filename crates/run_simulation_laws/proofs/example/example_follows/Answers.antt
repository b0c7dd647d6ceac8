use Rattle.run_simulation_laws.proofs.Working.{example_translates, example_marks}
use Rattle.run_simulation_laws.proofs.example.example_follows.Goals as goal

pub returns-clause-translates : goal.returns-clause-translates
returns-clause-translates c = example_translates

pub returns-clause-marks : goal.returns-clause-marks
returns-clause-marks c = example_marks
