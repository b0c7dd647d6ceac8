use Rattle.std.proofs.Common.{ap}
use Rattle.std.specs.Prelude.{unwrap_or}
use Rattle.class_definition.specs.LinkFault.{run_signature}
use Rattle.translate_classes_laws.proofs.LinkedNumbers.Found.{links}
use Rattle.translate_classes_laws.proofs.linked_numbers.classes_link.Goals as goal

pub returns-clause-links : goal.returns-clause-links
returns-clause-links c d others k few once each run = links d others k few once each run

pub returns-clause-first : goal.returns-clause-first
returns-clause-first c d others k once run =
    ap (λ o. unwrap_or o 0) (c.members_of_the_first_class_have_numbers.ensures.method d others k run_signature once run)
