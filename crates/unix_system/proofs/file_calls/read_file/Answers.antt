use Rattle.std.proofs.Common.{arith}
use Rattle.nv_events.proofs.Rooms.{can_write-front}
use Rattle.unix_system.proofs.file_calls.read_file.Goals as goal

pub copy_out-requires-clause-room : goal.copy_out-requires-clause-room
copy_out-requires-clause-room g c =
    let m = g.M.View.memory (g.M.View.content c.args.view.now) in
    let e = c.min-given.ensures in
    can_write-front m c.args.place c.args.count c.min-given.result c.requires.room (omega arith)
