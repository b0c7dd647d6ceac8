use Rattle.int_region.proofs.ArrayLemmas.{IsMark-all, IsMark-none, IsMark-added, IsMark-with_value, IsMark-take}
use Rattle.int_region.proofs.laws.marks.Goals as goal

pub returns : goal.returns
returns c = record { now = IsMark-all; start = IsMark-none; new_array = IsMark-added; new_value = IsMark-with_value; first_arrays = IsMark-take }
