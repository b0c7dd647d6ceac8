use Rattle.std.proofs.Common.{[]}
use Rattle.std.proofs.lemmas.Result.{err_from_is_err_and}
use Rattle.command_deeds.proofs.PieceLemmas.{Joins-more, Joins-part, later_split}
use Rattle.command_deeds.proofs.line.write_pieces.Goals as goal

pub loop-piece-preserved : goal.loop-piece-preserved
loop-piece-preserved g c =
    let split = later_split c.args.pieces.now c.loop-piece.piece-index (record { ref_ptr = (0, 0); now = [] }) c.loop-piece-test.true in
    Joins-more _ _ _ _ _ _ (rw split at c.loop-piece.invariant) c.in_ok-write_text.ensures.writes

pub returns-in_err-write_text : goal.returns-in_err-write_text
returns-in_err-write_text g c =
    let p = err_from_is_err_and c.from_residual.result c.from_residual.ensures.1 in
    let split = later_split c.args.pieces.now c.loop-piece.piece-index (record { ref_ptr = (0, 0); now = [] }) c.loop-piece-test.true in
    rw (p.1) (record { writes = Joins-part _ _ _ _ _ _ (rw split at c.loop-piece.invariant) c.in_err-write_text.ensures.writes })
