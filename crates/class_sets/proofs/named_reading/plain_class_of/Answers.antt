use Rattle.std.proofs.Common.{◌∙◌, Ok, ap}
use Rattle.class_sets.proofs.ReadLemmas.{plain_ok, plain_fault}
use Rattle.class_sets.proofs.named_reading.plain_class_of.Goals as goal

pub returns-in-Ok-clause-is : goal.returns-in-Ok-clause-is
returns-in-Ok-clause-is c =
    ap (λ t. Ok (record { class = c.in-Ok.class; tables = t })) (c.new-in-Ok.ensures ∙ c.new.ensures.items) ∙ plain_ok c.args.bytes.now c.in-Ok.class c.in-Ok.ensures.spelled

pub returns-in-Err-Refused-clause-is : goal.returns-in-Err-Refused-clause-is
returns-in-Err-Refused-clause-is c =
    rw c.in-Err-Refused.field-0-is (plain_fault c.args.bytes.now c.in-Err-Refused.fault (rw c.in-Err-Refused.field-0-is at c.in-Err-Refused.ensures.refused))
