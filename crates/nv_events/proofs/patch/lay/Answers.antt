use Rattle.std.proofs.Common.{◌∙◌}
use Rattle.nv_events.proofs.Rooms.{patched_there, patched_nowhere, fits-can_write}
use Rattle.nv_events.proofs.patch.lay.Goals as goal

pub put_all-requires : goal.put_all-requires
put_all-requires g c =
    fits-can_write (g.V.View.memory (g.V.View.content c.args.view.now)) c.args.patch.now c.in-Some.place c.in-Some.field-0-1 (rw c.in-Some.is at c.requires)

pub returns-in-Some : goal.returns-in-Some
returns-in-Some g c =
    let content = g.V.View.content c.args.view.now in
    let m = g.V.View.memory content in
    rw c.in-Some.is (c.put_all.ensures ∙ patched_there g.V.View.put_at content m c.args.patch.now c.in-Some.place c.in-Some.field-0-1 (rw c.in-Some.is at c.requires))

pub returns-in_default : goal.returns-in_default
returns-in_default g c =
    let content = g.V.View.content c.args.view.now in
    let m = g.V.View.memory content in
    rw c.in_default.is (patched_nowhere g.V.View.put_at content m c.args.patch.now (rw c.in_default.is at c.requires))
