use Rattle.emit_methods_laws.proofs.WholeCode.Programs.{of_nothing}
use Rattle.emit_methods_laws.proofs.WholeCode.Choosing.{class-can-be, main-can-be, missing-can-be}
use Rattle.emit_methods_laws.proofs.whole.choosers_are_whole.Goals as goal

pub returns-clause-class : goal.returns-clause-class
returns-clause-class c r starts first end fields few all =
    class-can-be r fields (c.choosers_are_typed.ensures.class of_nothing) starts first end few all

pub returns-clause-main : goal.returns-clause-main
returns-clause-main c r starts missing fields few all is =
    main-can-be r fields (c.choosers_are_typed.ensures.main of_nothing) starts missing few all is

pub returns-clause-missing : goal.returns-clause-missing
returns-clause-missing c r metered have = missing-can-be r metered have (c.choosers_are_typed.ensures.missing of_nothing metered)
