use Rattle.std.proofs.Common.{[], ◌-◌, ◌^◌}
use Rattle.command_deeds.proofs.alone.alone.Goals as goal

pub returns-in-Ok : goal.returns-in-Ok
returns-in-Ok c = record { begins = c.in-Ok.ensures.added (2 ^ 32 - 1) 1024 c.args.moment [] [] c.in_ok-unix.ensures }
