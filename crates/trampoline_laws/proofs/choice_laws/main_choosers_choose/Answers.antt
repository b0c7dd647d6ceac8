use Rattle.trampoline_laws.proofs.ChoiceLaws.Choosers.{main-calls, main-strays}
use Rattle.trampoline_laws.proofs.choice_laws.main_choosers_choose.Goals as goal

pub returns-clause-calls : goal.returns-clause-calls
returns-clause-calls c program words missing x starts w are is reached =
    main-calls program words x w is starts missing are.some are.few are.rise are.methods reached

pub returns-clause-strays : goal.returns-clause-strays
returns-clause-strays c program words missing x starts w some rise method word is outside =
    main-strays program words x w is starts missing some rise method word outside
