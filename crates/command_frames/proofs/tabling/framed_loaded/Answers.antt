use Rattle.command_frames.proofs.TablingLemmas.{loaded-makes}
use Rattle.command_frames.proofs.tabling.framed_loaded.Goals as goal

pub returns-in-Classes-clause-makes : goal.returns-in-Classes-clause-makes
returns-in-Classes-clause-makes c =
    loaded-makes c.args.named.now c.args.loaded c.in-Classes.classes c.into_vec.result.items c.framed_members.result c.in-Classes.is c.into_vec.ensures c.framed_members.ensures.makes
