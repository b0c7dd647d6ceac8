-- The classes of a set keep the rules of the format.
use Rattle.std.specs.Prelude.{All}
use Rattle.class_names.specs.Kept.{IsClass}
use Rattle.class_sets.specs.declared.loaded.Loaded.{Loaded}
use Rattle.class_sets.specs.declared.loaded.Loaded.TheVariants.{NoFile, Faulty, Classes}

abbrev pub IsKeptSet : Loaded → Type 0
IsKeptSet NoFile = Unit {0}
IsKeptSet (Faulty number fault) = Unit {0}
IsKeptSet (Classes classes) = All IsClass classes
