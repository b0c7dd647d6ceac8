use Rattle.std.proofs.Common.{ℕ, List, [], ◌∷◌, codes, subst}
use Rattle.std.proofs.lemmas.Result.{err_from_is_err_and}
use Rattle.nv_outside.proofs.SeenLemmas.{fails-before}
use Rattle.command_deeds.specs.Line.{fault_pieces, pieces_joined}
use Rattle.command_deeds.specs.World.{FailsIn, Writes, output_seen}
use Rattle.command_deeds.proofs.StageLemmas.{faulted-line, writes-behind}
use Rattle.command_deeds.proofs.line.write_stage_fault.Goals as goal

pub returns-in_err-write_pieces : goal.returns-in_err-write_pieces
returns-in_err-write_pieces g c =
    let p = err_from_is_err_and c.from_residual.result c.from_residual.ensures.1 in
    let line = faulted-line c.args.number c.args.fault c.decimal.result.now c.decimal.ensures in
    let fails =
    fails-before (output_seen g.E.Sink c.args.err.now) (output_seen g.E.Sink c.write_pieces.new.sink) (pieces_joined (codes "nested: stage " ∷ c.decimal.result.now ∷ []))
    (pieces_joined (fault_pieces (codes " fault ") c.args.fault))
    c.in_err-write_pieces.ensures.writes in
    rw (p.1) (record {
      writes = subst (λ (text : List ℕ). FailsIn (output_seen g.E.Sink c.args.err.now) (output_seen g.E.Sink c.write_pieces.new.sink) text) line fails;
    })

pub returns : goal.returns
returns g c =
    let line = faulted-line c.args.number c.args.fault c.decimal.result.now c.decimal.ensures in
    let writes =
    writes-behind (output_seen g.E.Sink c.args.err.now) (output_seen g.E.Sink c.write_pieces.new.sink) (output_seen g.E.Sink c.write_fault_end.new.err)
    (pieces_joined (codes "nested: stage " ∷ c.decimal.result.now ∷ []))
    (pieces_joined (fault_pieces (codes " fault ") c.args.fault))
    c.write_fault_end.result
    c.in_ok-write_pieces.ensures.writes
    c.write_fault_end.ensures.writes in
    record {
      writes = subst (λ (text : List ℕ). Writes (output_seen g.E.Sink c.args.err.now) (output_seen g.E.Sink c.write_fault_end.new.err) text c.write_fault_end.result) line writes;
    }
