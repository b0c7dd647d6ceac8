use Rattle.std.proofs.Common.{ℕ, List, ◌+◌, sym, subst}
use Rattle.run_simulation_laws.specs.Places.{Rises}
use Rattle.emit_paths_laws.proofs.Standing.{stretch_visits}
use Rattle.emit_paths_laws.proofs.Forward.{stretch_rises, no_more, no_more_lines}
use Rattle.emit_paths_laws.proofs.count_laws.forward_code_executes_each_line_once.Goals as goal

pub returns : goal.returns
returns c program words n at lines w p forward is = record {
  rises = λ m by others stands.
      subst (λ (places : List ℕ). Rises (by + at) places (by + p.at))
      (sym (stretch_visits program words m by lines others stands n at w p is))
      (stretch_rises program words lines forward by n at w p is);
  instructions = no_more_lines program words lines forward n at w p is;
  counts = λ weight. no_more program words lines forward weight n at w p is;
}
