use Rattle.std.proofs.Common.{◌≡◌, ℕ, take, map}
use Rattle.std.specs.Prelude.{nat_eq}
use Rattle.std.specs.List.{list_any}
use Rattle.class_names.specs.Keys.{own_number}
use Rattle.class_names.proofs.names.class_names_of.Given as goal

abbrev pub invariant-loop-class : goal.invariant-loop-class
invariant-loop-class l = (n : ℕ) → list_any (nat_eq n) l.names.keys ≡ list_any (nat_eq n) (map own_number (take l.class-index l.classes))
