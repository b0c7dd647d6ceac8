-- What is used of the laws of loading, of translated programs and of what is counted.
use Rattle.emit_paths_laws.specs.Laws.{CountsLookAtNoTarget}
use Rattle.trampoline_laws.specs.Programs.{SpansAreNumbered}
use Rattle.emit_loading_laws.specs.Made.{ProgramsLoad}
use Rattle.emit_program_laws.specs.Choosing.{BegunProgramsChoose}

pub record LoadingLaws : Type 0 where
  pub loads : ProgramsLoad
  pub chooses : BegunProgramsChoose
  pub numbered : SpansAreNumbered
  pub looks : CountsLookAtNoTarget
