use Rattle.std.proofs.Common.{[], ap}
use Rattle.std.specs.Prelude.{unwrap_or}
use Rattle.translate_classes_laws.proofs.LinkedNumbers.Made.{methods-made, fields-made}
use Rattle.translate_classes_laws.proofs.linked_numbers.members_are_as_planned.Goals as goal

pub returns-clause-class : goal.returns-clause-class
returns-clause-class c d name is = ap (λ o. unwrap_or o []) is

pub returns-clause-methods : goal.returns-clause-methods
returns-clause-methods c d plans made = methods-made d d.methods plans made

pub returns-clause-fields : goal.returns-clause-fields
returns-clause-fields c d name descriptor numbers made = fields-made d name descriptor d.fields numbers made
