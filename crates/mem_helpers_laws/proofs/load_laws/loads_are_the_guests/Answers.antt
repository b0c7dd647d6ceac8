use Rattle.std.proofs.Common.{lit<}
use Rattle.mem_helpers_laws.proofs.LoadLaws.Loads.{loads-by-name}
use Rattle.mem_helpers_laws.proofs.load_laws.loads_are_the_guests.Goals as goal

pub returns : goal.returns
returns c program words readable writable old a pc order name memory caller it old_word =
    loads-by-name program words old a pc order memory caller
    (record {
      readable = readable;
      writable = writable;
      helper = it.helpers 18 (lit< tt);
      readable_is = it.readable_is;
      held = it.held;
      word = it.is_word;
    }) old_word name
