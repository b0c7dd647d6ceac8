use Rattle.command_translate.proofs.ProgramEnd.{made_ends}
use Rattle.command_translate.proofs.made_laws.made_programs_end.Goals as goal

pub returns : goal.returns
returns c count moment file few is = made_ends count moment file few is
