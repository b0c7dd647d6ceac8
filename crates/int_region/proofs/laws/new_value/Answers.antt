use Rattle.int_region.proofs.ArrayLemmas.{array_at-with_value, array_at-with_value_here, array_at-with_value_other, used_by-with_value}
use Rattle.int_region.proofs.laws.new_value.Goals as goal

pub returns : goal.returns
returns c = record { places = array_at-with_value; here = array_at-with_value_here; others = array_at-with_value_other; used = used_by-with_value }
