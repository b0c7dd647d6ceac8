use Rattle.std.proofs.Common.{ℕ, ◌<◌, ◌∙◌, arith, get_or, length}
use Rattle.nv_events.proofs.Rooms.{fits_there}
use Rattle.nv_events.proofs.patch.fits.Goals as goal

pub returns-then-patch-size : goal.returns-then-patch-size
returns-then-patch-size g c =
    let bs = c.args.patch.now in
    let below : (i : ℕ) → get_or bs i 0 < 256 = λ i. omega (arith, c.type_inv.patch i) in
    let some : 0 < length bs = grind arith in
    rw c.in-Some.is (c.has_room.ensures ∙ fits_there (g.V.View.memory (g.V.View.content c.args.view.now)) bs c.in-Some.place c.in-Some.size below some c.if-patch-size.true)
