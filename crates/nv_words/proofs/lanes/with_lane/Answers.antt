use Rattle.std.proofs.Common.{refl, arith}
use Rattle.run_definition.specs.Words.{lane_of_word}
use Rattle.nv_words.proofs.LaneLemmas.{shifted_into_lane, IsWord-with_lane, lane_of_word-with_lane, lane_of_word-lt}
use Rattle.nv_words.proofs.lanes.with_lane.Goals as goal

pub returns-clause-value : goal.returns-clause-value
returns-clause-value c =
    rw (c.from.ensures, c.from-2.ensures, c.lane.ensures)
    (rw (
      shifted_into_lane (lane_of_word c.args.w c.args.i) c.args.i (lane_of_word-lt c.args.w c.args.i) c.requires,
      shifted_into_lane c.args.b c.args.i (omega arith) c.requires,
    ) refl)

pub overflow_add-result : goal.overflow_add-result
overflow_add-result c =
    let same = returns-clause-value c in
    let word = IsWord-with_lane c.args.w c.args.i c.args.b (omega arith) c.requires (omega arith) in
    rw same (omega (arith, word))

pub returns-clause-lanes : goal.returns-clause-lanes
returns-clause-lanes c k h =
    let same = returns-clause-value c in
    rw same (lane_of_word-with_lane c.args.w c.args.i c.args.b k (omega arith) c.requires (omega arith) h)
