use Rattle.std.proofs.lemmas.Result.{err_from_is_err_and}
use Rattle.command_deeds.specs.Ends.{end_of}
use Rattle.command_frames.proofs.TablingLemmas.{untyped-refused, typed-makes}
use Rattle.command_frames.proofs.tabling.verified_first.Goals as goal

pub returns-in_err-verified-clause-makes : goal.returns-in_err-verified-clause-makes
returns-in_err-verified-clause-makes c =
    let p = err_from_is_err_and c.from_residual.result c.from_residual.ensures.1 in
    rw (p.1, p.2) (untyped-refused c.args.linked.classes (end_of c.in_err-verified.field-0.0) c.in_err-verified.ensures.makes)

pub returns-clause-makes : goal.returns-clause-makes
returns-clause-makes c =
    typed-makes c.args.linked.classes c.in_ok-verified.verified.linked.classes c.with_tables.result c.in_ok-verified.ensures.makes c.with_tables.ensures.makes
