use Rattle.emit_simulation_laws.proofs.laws.code_is_paths.Goals as goal

pub returns : goal.returns
returns c = record {
  paths = c.code_is_a_path.ensures.within;
  paths_elsewhere = c.code_is_a_path.ensures.elsewhere;
  parts = c.parts_lie_behind_each_other.ensures;
  turns = c.turns_at_steps.ensures.elsewhere;
  calls = c.calls_are_paths.ensures.within;
  stopped_calls = c.calls_that_stop.ensures.within;
}
