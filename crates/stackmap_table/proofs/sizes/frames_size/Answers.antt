use Rattle.std.proofs.Common.{ap, subst, ◌∙◌}
use Rattle.stackmap_table.specs.Last.{start_of}
use Rattle.stackmap_table.specs.Shortest.{AreTabled, trimmed_locals}
use Rattle.stackmap_table.proofs.SizedLaws.{first-sizing, next-sizing, all-sized}
use Rattle.stackmap_table.proofs.sizes.frames_size.Goals as goal

pub loop-next-init : goal.loop-next-init
loop-next-init c = record {
  tabled = c.requires.tabled;
  sizing = λ pool slots refs. first-sizing pool c.args.parameters.now c.args.listed.now c.requires.tabled;
}

pub loop-next-preserved : goal.loop-next-preserved
loop-next-preserved c =
    let a = c.args in
    let l = c.loop-next in
    let next = c.in-Some.next.now in
    let others = c.in-Some.others.now in
    let front = c.in-Some.ensures.cases.0 in
    record {
      tabled = (subst (AreTabled (start_of l.last)) front l.invariant.tabled).1;
      sizing = λ pool slots refs.
          next-sizing pool a.parameters.now a.listed.now l.last l.before.now l.rest.now others next l.size front (l.invariant.sizing pool slots refs)
          c.trimmed-locals.result.now c.in_ok-added.added c.in_ok-size.size (c.trimmed-locals.ensures ∙ ap trimmed_locals c.as_slice.ensures) (c.in_ok-added.ensures pool slots refs) c.in_ok-size.ensures;
    }

pub returns : goal.returns
returns c pool slots refs =
    let a = c.args in
    let l = c.loop-next in
    all-sized pool a.parameters.now a.listed.now l.last l.before.now l.rest.now l.size c.requires.some c.in_default.ensures.cases (l.invariant.sizing pool slots refs)
