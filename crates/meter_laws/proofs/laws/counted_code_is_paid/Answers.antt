use Rattle.meter_laws.proofs.CountedCode.{code-paid, code-spent}
use Rattle.meter_laws.proofs.laws.counted_code_is_paid.Goals as goal

pub returns-clause-enough : goal.returns-clause-enough
returns-clause-enough c program words turns left at w few has least = code-paid program words w left has turns at few least

pub returns-clause-too_few : goal.returns-clause-too_few
returns-clause-too_few c program words turns left at w few has less = code-spent program words w left has turns at few less
