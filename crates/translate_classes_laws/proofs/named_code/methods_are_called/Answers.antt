use Rattle.std.proofs.Common.{refl}
use Rattle.emit_layout.specs.Helpers.{helper_name, helper_descriptor}
use Rattle.translate_classes.specs.Tables.{references_of}
use Rattle.translate_classes_laws.proofs.NamedCode.Meant.{numbered-called, members-called, helpers-called}
use Rattle.translate_classes_laws.proofs.named_code.methods_are_called.Goals as goal

pub returns-clause-numbered : goal.returns-clause-numbered
returns-clause-numbered c r classes number d pool calls goes_on each = numbered-called c.methods_are_meant.ensures r classes number d pool goes_on
    calls each

pub returns-clause-members : goal.returns-clause-members
returns-clause-members c r classes number d pool class count owner name descriptor goes_on owner_is no_host members numbers = members-called
    c.methods_are_meant.ensures r classes number d pool goes_on class count owner name descriptor owner_is no_host members numbers

pub returns-clause-helpers : goal.returns-clause-helpers
returns-clause-helpers c fields classes number d pool main names helpers goes_on are no_host members numbers = helpers-called
    c.methods_are_meant.ensures (references_of names 0 helpers) classes number d pool goes_on names.main 20 main helper_name helper_descriptor
    are.main_is no_host members numbers refl refl
