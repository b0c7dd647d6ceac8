use Rattle.std.proofs.Common.{lit<}
use Rattle.mem_helpers_laws.proofs.LoadLaws.Whole.{ll-loads}
use Rattle.mem_helpers_laws.proofs.load_laws.linked_loads_are_the_guests.Goals as goal

pub returns : goal.returns
returns c program words readable writable a pc order memory caller it =
    ll-loads program words 0 a pc order memory caller
    (record {
      readable = readable;
      writable = writable;
      helper = it.helpers 18 (lit< tt);
      readable_is = it.readable_is;
      held = it.held;
      word = it.is_word;
    })
