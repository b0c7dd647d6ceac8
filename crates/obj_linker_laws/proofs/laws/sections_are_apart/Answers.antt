use Rattle.obj_linker_laws.specs.Held.{sections_in}
use Rattle.obj_linker_laws.proofs.Linked.{not_large}
use Rattle.obj_linker_laws.proofs.Places.{apart}
use Rattle.obj_linker_laws.proofs.laws.sections_are_apart.Goals as goal

pub returns : goal.returns
returns c files entry none i j s t lt at to placed too =
    apart (sections_in files) (not_large files entry none) i j s t lt at to placed too
