use Rattle.translate_classes.proofs.Rooms.RefusalLemmas.{one-fits}
use Rattle.translate_classes.proofs.building.text.Goals as goal

pub sure-requires-clause-room : goal.sure-requires-clause-room
sure-requires-clause-room c =
    λ is. one-fits c.args.class.now.pool 1 c.args.characters.items c.requires.room c.requires.short (c.text.ensures.full is)
