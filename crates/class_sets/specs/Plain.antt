-- A set of classes of version 48.0 without the names by which they were loaded.
use Rattle.std.specs.Prelude.{ℕ, List, []}
use Rattle.class_sets.specs.declared.loaded.Loaded.{Loaded}
use Rattle.class_sets.specs.declared.loaded.Loaded.TheVariants as loaded
use Rattle.class_sets.specs.declared.named_set.NamedSet.{NamedSet}
use Rattle.class_sets.specs.declared.named_set.NamedSet.TheVariants.{NoFile, Faulty, Classes}

abbrev pub loaded_of : NamedSet → Loaded
loaded_of NoFile = loaded.NoFile
loaded_of (Faulty number fault) = loaded.Faulty number fault
loaded_of (Classes m) = loaded.Classes m.classes

-- the names by which its classes were loaded
abbrev pub loaded_names : NamedSet → List (List ℕ)
loaded_names (Classes m) = m.names
loaded_names set = []
