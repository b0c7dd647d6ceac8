use Rattle.std.proofs.Common.{rules, ◌≡◌, ℕ, Bool, false, length, sym, ◌∙◌, arith}
use Rattle.std.specs.Prelude.{slice_index_or}
use Rattle.block_builder.specs.Blocks.{ends}
use Rattle.block_builder.proofs.BlockLemmas.{find_next, goes_within}
use Rattle.block_builder.proofs.builder.end_of.Goals as goal

pub loop-last-preserved : goal.loop-last-preserved
loop-last-preserved c =
    let units = c.args.units.now in
    let leads : ℕ → Bool = λ k. slice_index_or c.args.leaders.now k false in
    let last = c.loop-last.last in
    let on : ends units leads last ≡ false = sym c.ends.ensures ∙ search rules in
    let within = goes_within units leads last c.loop-last.invariant.within on in
    record {
      from = omega (arith, c.loop-last.invariant.from);
      within = within;
      same = find_next (ends units leads) last (length units) (c.loop-last.invariant.within) on ∙ c.loop-last.invariant.same;
    }
