use Rattle.elf_image.proofs.RunsLemmas.{runs_one}
use Rattle.elf_image.proofs.runs.runs_are_one.Goals as goal

pub returns : goal.returns
returns c = λ area runs runs'. runs_one area c.args._code.now c.args._other.now runs runs'
