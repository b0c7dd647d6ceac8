use Rattle.std.proofs.Common.{Ok, Err}
use Rattle.std.proofs.lemmas.List.Sorted.{searched}
use Rattle.emit_assembly.proofs.StartLemmas.{ends-rise, found-start, missing-start}
use Rattle.emit_assembly.proofs.starts.is_start.Goals as goal

pub returns-in-Ok : goal.returns-in-Ok
returns-in-Ok c =
    let code = c.args.code.now in
    let ends = c.args.ends.now in
    let found = searched ends c.args.target (Ok c.in-Ok.k) c.in-Ok.ensures.position (ends-rise code ends c.requires.ends) in
    found-start code ends c.requires.ends c.in-Ok.k c.args.target found.0 found.1

pub returns-in-Err : goal.returns-in-Err
returns-in-Err c =
    let code = c.args.code.now in
    let ends = c.args.ends.now in
    let missing = searched ends c.args.target (Err c.in-Err.field-0) c.in-Err.ensures.position (ends-rise code ends c.requires.ends) in
    missing-start code ends c.requires.ends c.in-Err.field-0 c.args.target c.requires.some missing.1 missing.2
