use Rattle.std.proofs.Common.{◌≤◌, length, ap, subst, ◌∙◌, arith}
use Rattle.stackmap_table.specs.Forms.{form_size, frame_by}
use Rattle.stackmap_table.specs.Shortest.{GivesShortest, has_no_long}
use Rattle.stackmap_table.proofs.SizedLaws.{delta-small, sized-form}
use Rattle.stackmap_table.proofs.TrimLaws.{trimmed-length, trimmed-short}
use Rattle.stackmap_table.proofs.WrittenLaws.{offset-behind}
use Rattle.stackmap_table.proofs.sizes.next_size.Goals as goal

pub shortest_form-form-requires-clause-locals : goal.shortest_form-form-requires-clause-locals
shortest_form-form-requires-clause-locals c = ap has_no_long c.requires.locals ∙ trimmed-short c.args.next.now.1.locals c.requires.tabled.locals

pub shortest_form-form-requires-clause-few_locals : goal.shortest_form-form-requires-clause-few_locals
shortest_form-form-requires-clause-few_locals c = omega (arith, ap length c.requires.locals, trimmed-length c.args.next.now.1.locals, c.requires.tabled.few_locals)

pub form_size-requires-clause-few_locals : goal.form_size-requires-clause-few_locals
form_size-requires-clause-few_locals c = omega (arith, ap length c.requires.locals, trimmed-length c.args.next.now.1.locals, c.requires.tabled.few_locals)

pub returns : goal.returns
returns c pool slots refs =
    let a = c.args in
    let delta = c.delta_behind-delta.result in
    let form = c.shortest_form-form.result in
    let stack = a.next.now.1.stack in
    let behind = c.delta_behind-delta.ensures in
    let small : delta ≤ 65535 = delta-small a.last delta a.next.now.0 c.requires.tabled.near behind.first behind.later in
    let own = c.shortest_form-form.ensures.shortest pool slots delta refs small in
    let first = c.as_slice.ensures.value ∙ c.in_ok-stack.ensures in
    let second = c.as_slice-2.ensures.value ∙ c.in_ok-stack.ensures in
    let frame = frame_by slots delta a.locals.now stack form in
    let gives = subst (λ s. GivesShortest pool a.before.now delta a.locals.now s (frame_by slots delta a.locals.now s form)) first own in
    record {
      delta = delta;
      frame = frame;
      gives = gives;
      offset = offset-behind a.last frame delta a.next.now.0 gives.gives.rises behind.first behind.later;
      sized = c.form_size.ensures ∙ (ap (λ s. form_size delta a.locals.now s form) second ∙ sized-form slots delta a.locals.now stack form);
    }
