use Rattle.command_guest.proofs.ClassLemmas.{classes_make}
use Rattle.command_guest.proofs.accepting.accept_loaded.Goals as goal

pub returns-in-Classes : goal.returns-in-Classes
returns-in-Classes c = record {
  makes = classes_make c.args.named.now c.args.loaded c.in-Classes.classes c.into_vec.result.items c.accept_classes.result c.in-Classes.is
      c.into_vec.ensures c.accept_classes.ensures.makes;
}
