use Rattle.std.proofs.Common.{◌+◌, length, arith}
use Rattle.nv_events.proofs.Rooms.{below_end, writable_in, can_write-front}
use Rattle.unix_calls.proofs.begin.put_block.Goals as goal

pub block-block-requires : goal.block-block-requires
block-block-requires g c =
    let content = g.M.View.content c.args.view.now in
    let m = g.M.View.memory content in
    let b = below_end m (c.laws.ensures.written_is_readable content) (c.laws.ensures.ends content) (c.args.place + 4095) (writable_in m c.args.place c.args.size 4095 c.requires.room (omega (arith, c.requires.size))) in
    omega (arith, b)

pub put_bytes-requires : goal.put_bytes-requires
put_bytes-requires g c =
    let m = g.M.View.memory (g.M.View.content c.args.view.now) in
    can_write-front m c.args.place c.args.size (length c.as_slice.result.now) c.requires.room (omega (arith, c.requires.size, c.as_slice.ensures.small))
