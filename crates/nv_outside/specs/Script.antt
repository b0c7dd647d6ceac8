-- Which calls of an object in memory fail, by their numbers from 1.
use Rattle.std.specs.Prelude.{ℕ, Bool, ◌==◌, List, if◌then◌else◌}
use Rattle.std.specs.List.{list_any}
use Rattle.nv_outside.specs.Faults.{one_more}

-- the calls that were made, the numbers of those that fail, and the count of faults
pub record Script : Type 0 where
  pub made : ℕ
  pub fails : List ℕ
  pub faults : ℕ

abbrev pub next_fails : Script → Bool
next_fails s = list_any (λ n. n == one_more s.made) s.fails

-- one more fault
abbrev pub after_fault : Script → Script
after_fault s = record { made = s.made; fails = s.fails; faults = one_more s.faults }

abbrev pub after_call : Script → Script
after_call s = record {
  made = one_more s.made;
  fails = s.fails;
  faults = if next_fails s
      then one_more s.faults else s.faults;
}

abbrev pub new_script : List ℕ → Script
new_script fails = record { made = 0; fails = fails; faults = 0 }
