use Rattle.std.proofs.Common.{◌≡◌, ◌≤◌, ◌<◌, ◌^◌, List, sym, subst, arith}
use Rattle.std.proofs.lemmas.Result.{IfOk-weaker}
use Rattle.class_definition.specs.declared.entry.Entry.{Entry}
use Rattle.stackmap_table.specs.declared.table_frame.TableFrame.{TableFrame}
use Rattle.stackmap_table.specs.Forms.{frame_by}
use Rattle.stackmap_table.specs.Shortest.{AreReferences, GivesShortest}
use Rattle.stackmap_table.proofs.shortest.shortest_frame.Goals as goal

pub returns : goal.returns
returns c =
    let a = c.args in
    let form = c.shortest_form-form.result in
    let near : a.delta < 2 ^ 16 = omega (arith, c.ranges.delta.fits) in
    let small : a.delta ≤ 65535 = omega (arith, near) in
    IfOk-weaker c.frame_of.result
    (λ (f : TableFrame). f ≡ frame_by a.slots a.delta a.locals.now a.stack.now form)
    (λ (f : TableFrame). (pool : List Entry) → AreReferences pool a.slots → GivesShortest pool a.before.now a.delta a.locals.now a.stack.now f)
    (λ f e pool refs. subst (GivesShortest pool a.before.now a.delta a.locals.now a.stack.now) (sym e) (c.shortest_form-form.ensures.shortest pool a.slots a.delta refs small))
    c.frame_of.ensures
