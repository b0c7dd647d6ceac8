use Rattle.int_region.proofs.ArrayLemmas.{array_at-take, same_take}
use Rattle.int_region.proofs.laws.first_arrays.Goals as goal

pub returns : goal.returns
returns c = record { places = array_at-take; one = same_take }
