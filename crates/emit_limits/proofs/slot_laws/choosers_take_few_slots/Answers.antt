use Rattle.emit_limits.proofs.TreeSlots.{class-few, main-few, missing-few}
use Rattle.emit_limits.proofs.slot_laws.choosers_take_few_slots.Goals as goal

pub returns-clause-classes : goal.returns-clause-classes
returns-clause-classes c starts first end = class-few starts first end

pub returns-clause-program : goal.returns-clause-program
returns-clause-program c starts missing = main-few starts missing

pub returns-clause-missing : goal.returns-clause-missing
returns-clause-missing c = missing-few
