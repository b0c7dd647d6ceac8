use Rattle.int_region.proofs.ArrayLemmas.{none_at_end, array_at-added, array_at-added_other, used_by-added}
use Rattle.int_region.proofs.laws.new_array.Goals as goal

pub returns : goal.returns
returns c = record { was_free = none_at_end; places = array_at-added; others = array_at-added_other; used = used_by-added }
