use Rattle.std.proofs.Common.{arith}
use Rattle.class_definition_laws.proofs.FramedClassLaws.{read_spelled, no_fault, same_read}
use Rattle.class_reader.proofs.framed_read.read_class_51.Goals as goal

pub returns-in-Ok-clause-spelled : goal.returns-in-Ok-clause-spelled
returns-in-Ok-clause-spelled c = read_spelled c.args.b.now c.in-Ok.class (λ i. omega (arith, c.type_inv.b i)) c.in-Ok.ensures

pub returns-in-Ok-clause-found : goal.returns-in-Ok-clause-found
returns-in-Ok-clause-found c = λ d spells. (no_fault c.args.b.now d spells, same_read c.args.b.now d c.in-Ok.class spells c.in-Ok.ensures)

pub returns-in-Err-clause-found : goal.returns-in-Err-clause-found
returns-in-Err-clause-found c = λ d spells. (no_fault c.args.b.now d spells, tt)
