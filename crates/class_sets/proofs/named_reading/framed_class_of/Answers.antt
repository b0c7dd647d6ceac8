use Rattle.class_sets.proofs.ReadLemmas.{framed_ok, framed_fault}
use Rattle.class_sets.proofs.named_reading.framed_class_of.Goals as goal

pub returns-in-Ok-clause-is : goal.returns-in-Ok-clause-is
returns-in-Ok-clause-is c = framed_ok c.args.bytes.now c.in-Ok.class c.in-Ok.ensures.spelled

pub returns-in-Err-Refused-clause-is : goal.returns-in-Err-Refused-clause-is
returns-in-Err-Refused-clause-is c = framed_fault c.args.bytes.now c.in-Err-Refused.fault (rw c.in-Err-Refused.field-0-is at c.in-Err-Refused.ensures.refused)
