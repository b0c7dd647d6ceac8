use Rattle.trampoline_laws.proofs.TrampolineLaws.Programs.{stray-missing}
use Rattle.trampoline_laws.proofs.laws.strays_are_missing.Goals as goal

pub returns : goal.returns
returns c metered program order choose missing classes code t x reached none =
    stray-missing program order choose missing classes code x t reached none
