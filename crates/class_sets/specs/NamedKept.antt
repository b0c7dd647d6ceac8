-- The classes of a set keep the rules of the format.
use Rattle.std.specs.Prelude.{◌≡◌, true, ℕ, List, length}
use Rattle.std.specs.List.{AllZip}
use Rattle.class_definition.specs.declared.class.Class.{Class}
use Rattle.class_definition.specs.declared.framed_class.FramedClass.{FramedClass}
use Rattle.class_definition.specs.FramedClassFile.{framed_class}
use Rattle.class_names.specs.Kept.{IsClass}
use Rattle.class_sets.specs.declared.members.Members.{Members}
use Rattle.class_sets.specs.declared.named_set.NamedSet.{NamedSet}
use Rattle.class_sets.specs.declared.named_set.NamedSet.TheVariants.{NoFile, Faulty, Classes}
use Rattle.class_sets.specs.declared.version.Version.{Version}
use Rattle.class_sets.specs.declared.version.Version.TheVariants.{V48, V51}

abbrev pub IsPlain : FramedClass → Type 0
IsPlain c = IsClass c.class

abbrev pub IsFramed : FramedClass → Type 0
IsFramed c = framed_class.fits c ≡ true

-- a class of a version, with its tables
abbrev pub IsKept : Version → FramedClass → Type 0
IsKept V48 c = IsPlain c
IsKept V51 c = IsFramed c

abbrev pub IsKeptWith : Version → Class → List (List ℕ) → Type 0
IsKeptWith version c tables = IsKept version (record { class = c; tables = tables })

pub record AreKept (version : Version) (m : Members) : Type 0 where
  pub named : length m.names ≡ length m.classes
  pub classes : AllZip (IsKeptWith version) m.classes m.tables

abbrev pub IsKeptSet : Version → NamedSet → Type 0
IsKeptSet version NoFile = Unit {0}
IsKeptSet version (Faulty number fault) = Unit {0}
IsKeptSet version (Classes m) = AreKept version m
