use Rattle.emit_types_laws.proofs.TypedMethods.Choosing.{main-chooser-typed, class-chooser-typed, missing-typed}
use Rattle.emit_types_laws.proofs.typed_methods.choosers_are_typed.Goals as goal

pub returns-clause-main : goal.returns-clause-main
returns-clause-main c program starts missing h all = main-chooser-typed program starts missing h all

pub returns-clause-class : goal.returns-clause-class
returns-clause-class c program starts first end all = class-chooser-typed program starts first end all

pub returns-clause-missing : goal.returns-clause-missing
returns-clause-missing c program = missing-typed program
