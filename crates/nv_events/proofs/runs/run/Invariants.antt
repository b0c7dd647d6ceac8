use Rattle.std.proofs.Common.{◌≡◌, ◌-◌, ◌≤◌, false, Some}
use Rattle.nv_events.specs.Counting.{IsCounted}
use Rattle.nv_events.proofs.Progress.{Progress, Reaches}
use Rattle.nv_events.proofs.runs.run.Given as goal

abbrev pub invariant-loop-made : goal.invariant-loop-made
invariant-loop-made g l =
    let M = g.M.Machine in
    let V = g.V.Server in
    let old = M.state l.initial.machine in
    let now = M.state l.machine in
    record {
      bound : l.made ≤ l.bound;
      going : M.has_ended l.machine ≡ false;
      usable : V.usable l.server;
      progress : Progress V.goes M.turn l.made old now l.initial.server l.server;
      told : (k : V.State) → V.told l.initial.server ≡ Some k → (j : V.State) × (V.told l.server ≡ Some j) × Reaches M.turn V.reply l.made old now k j;
      faults : V.faults l.server ≡ V.faults l.initial.server;
      ready : V.ready l.server ≡ V.ready l.initial.server;
      keeps : V.keeps l.initial.server l.server;
      fixed : M.fixed l.machine ≡ M.fixed l.initial.machine;
      counts : IsCounted l.made (M.count l.initial.machine) (M.count l.machine);
    }

abbrev pub decreases-loop-made : goal.decreases-loop-made
decreases-loop-made g l = l.bound - l.made
