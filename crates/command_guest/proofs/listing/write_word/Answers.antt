use Rattle.std.proofs.lemmas.Result.{err_from_is_err_and}
use Rattle.command_deeds.specs.World.{output_seen}
use Rattle.command_guest.proofs.ListingLemmas.{none_printed}
use Rattle.command_guest.proofs.listing.write_word.Goals as goal

pub returns-in_err-text : goal.returns-in_err-text
returns-in_err-text g c =
    let p = err_from_is_err_and c.from_residual.result c.from_residual.ensures.1 in
    rw (p.1, p.2) (record { prints = none_printed (output_seen g.O.Sink c.args.out.now) c.args.at c.args.word })
