use Rattle.std.proofs.Common.{ap, sym, length}
use Rattle.class_definition_laws.proofs.ClassLaws.{spelled_read}
use Rattle.class_sets.specs.ClassSets.{class_or_fault}
use Rattle.class_sets.proofs.reading.class_of.Goals as goal

pub returns-in-Ok-clause-is : goal.returns-in-Ok-clause-is
returns-in-Ok-clause-is c = sym (ap (class_or_fault (length c.args.bytes.now)) (spelled_read c.args.bytes.now c.in-Ok.class c.in-Ok.ensures.spelled))
