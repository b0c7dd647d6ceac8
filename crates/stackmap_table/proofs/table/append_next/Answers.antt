use Rattle.std.proofs.Common.{length, ap, subst, ◌∙◌, arith}
use Rattle.stackmap_table.specs.Shortest.{GivesShortest, has_no_long}
use Rattle.stackmap_table.proofs.TrimLaws.{trimmed-length, trimmed-short}
use Rattle.stackmap_table.proofs.WrittenLaws.{short-of, rises-behind, offset-behind}
use Rattle.stackmap_table.proofs.table.append_next.Goals as goal

pub delta_behind-delta-requires-clause-rises : goal.delta_behind-delta-requires-clause-rises
delta_behind-delta-requires-clause-rises c = rises-behind c.args.last c.args.next.now c.requires.tabled.rises

pub shortest_frame-requires-clause-locals : goal.shortest_frame-requires-clause-locals
shortest_frame-requires-clause-locals c = ap has_no_long c.requires.locals ∙ trimmed-short c.args.next.now.1.locals c.requires.tabled.locals

pub shortest_frame-requires-clause-few_locals : goal.shortest_frame-requires-clause-few_locals
shortest_frame-requires-clause-few_locals c = omega (arith, ap length c.requires.locals, trimmed-length c.args.next.now.1.locals, c.requires.tabled.few_locals)

pub append_frame-requires : goal.append_frame-requires
append_frame-requires c = short-of c.args.pool.now c.in_ok-frame.frame (c.in_ok-frame.ensures c.args.pool.now c.requires.references).gives.fits

pub returns : goal.returns
returns c =
    let a = c.args in
    let delta = c.delta_behind-delta.result in
    let frame = c.in_ok-frame.frame in
    let g = subst (λ s. GivesShortest a.pool.now a.before.now delta a.locals.now s frame) (c.as_slice.ensures.value ∙ c.in_ok-stack.ensures) (c.in_ok-frame.ensures a.pool.now c.requires.references) in
    record {
      delta = delta;
      frame = frame;
      gives = g;
      offset = offset-behind a.last frame delta a.next.now.0 g.gives.rises c.delta_behind-delta.ensures.first c.delta_behind-delta.ensures.later;
      written = c.in_ok-append_frame.ensures;
    }
