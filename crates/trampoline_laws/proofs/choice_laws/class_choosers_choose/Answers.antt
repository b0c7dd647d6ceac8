use Rattle.trampoline_laws.proofs.ChoiceLaws.Choosers.{class-calls, class-returns}
use Rattle.trampoline_laws.proofs.choice_laws.class_choosers_choose.Goals as goal

pub returns-clause-calls : goal.returns-clause-calls
returns-clause-calls c program words first end x starts w are low is within =
    class-calls program words x w is starts first end are.some are.few are.rise are.methods low within

pub returns-clause-returns : goal.returns-clause-returns
returns-clause-returns c program words first end x starts w low_first low_end word is outside =
    class-returns program words x w is starts first end low_first low_end word outside
