use Rattle.trampoline_laws.proofs.ChoiceLaws.Choosers.{stray-faults}
use Rattle.trampoline_laws.proofs.ChoiceLaws.Metered.{metered-faults, spent-ends}
use Rattle.trampoline_laws.proofs.choice_laws.strays_fault.Goals as goal

pub returns-clause-plain : goal.returns-clause-plain
returns-clause-plain c program words x w is = stray-faults program words x w is

pub returns-clause-metered : goal.returns-clause-metered
returns-clause-metered c program words left x w is has some = metered-faults program words x w is left has some

pub returns-clause-spent : goal.returns-clause-spent
returns-clause-spent c program words x w is has = spent-ends program words x w is has
