use Rattle.std.proofs.Common.{sym, ap, ◌∙◌, refl, arith}
use Rattle.stackmap_maker.proofs.methods.table_within.Goals as goal

pub returns-then-room-size : goal.returns-then-room-size
returns-then-room-size c =
    let h = c.in_ok-size.ensures c.args.pool.now c.args.slots c.requires.references in
    record { all = h.bytes; is = h.is; sized = h.sized; written = λ small. absurd (omega (arith, small, c.if-room-size.true)) }
