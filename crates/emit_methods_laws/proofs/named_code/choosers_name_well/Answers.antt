use Rattle.emit_methods_laws.proofs.NamedCode.Choosing.{class-well, main-well, missing-well}
use Rattle.emit_methods_laws.proofs.named_code.choosers_name_well.Goals as goal

pub returns-clause-class : goal.returns-clause-class
returns-clause-class c calls class starts first end all = class-well calls class starts first end all

pub returns-clause-main : goal.returns-clause-main
returns-clause-main c calls class starts missing all is = main-well calls class starts missing all is

pub returns-clause-missing : goal.returns-clause-missing
returns-clause-missing c calls class metered = missing-well calls class metered
