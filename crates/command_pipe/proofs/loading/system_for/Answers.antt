use Rattle.std.proofs.Common.{[], ◌-◌, ◌^◌}
use Rattle.command_pipe.proofs.loading.system_for.Goals as goal

pub returns-in-Ok : goal.returns-in-Ok
returns-in-Ok c = record {
  begins = c.in-Ok.ensures.added (2 ^ 32 - 1) c.args.launch.now.disk c.args.launch.now.moment [] [] c.in_ok-unix.ensures;
}
