use Rattle.emit_program_laws.proofs.GoingOn.{programs-go-on}
use Rattle.emit_program_laws.proofs.entered_laws.entered_programs_go_on.Goals as goal

pub returns : goal.returns
returns c = programs-go-on c.turns_are_followed.ensures
