-- The types of parameters, by the slots of a pool.
use Rattle.std.specs.Prelude.{ℕ, ◌-◌, ◌==◌, if◌then◌else◌, List, [], slice_get, unwrap_or}
use Rattle.jvm_definition.specs.declared.kind.Kind.{Kind}
use Rattle.class_definition.specs.declared.entry.Entry.{Entry}
use Rattle.class_definition.specs.declared.entry.Entry.TheVariants.{Utf8}
use Rattle.class_definition.specs.Linking.{parameters_of}

abbrev pub entry_parameters : Entry → List Kind
entry_parameters (Utf8 cs) = parameters_of cs
entry_parameters _ = []

-- those of the slot that is counted from 1
abbrev pub parameters_at : List (List Kind) → ℕ → List Kind
parameters_at parameters n = if n == 0 then [] else unwrap_or (slice_get parameters (n - 1)) []
