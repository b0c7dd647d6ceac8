-- Why classes have no tables: a pool has too few slots, or a file is too large.
use Rattle.std.specs.Prelude.{◌≡◌, ℕ, List, map}
use Rattle.class_definition.specs.declared.class.Class.{Class}
use Rattle.class_definition.specs.declared.framed_class.FramedClass.{FramedClass}
use Rattle.class_definition.specs.FramedClassFile.{IsTabled}
use Rattle.class_names.specs.Kept.{IsClass}
use Rattle.frame_maps.specs.declared.frame_error.FrameError.{FrameError}
use Rattle.frame_maps.specs.declared.frame_error.FrameError.TheVariants.{Refused, TooLarge, NoMemory}
use Rattle.stackmap_maker.specs.Full.{AreNotTyped, IsFull}
use Rattle.stackmap_laws.specs.Framed.{AreFramed, AreTables}
use Rattle.stackmap_maker.specs.declared.unframed.Unframed.{Unframed}
use Rattle.stackmap_maker.specs.declared.unframed.Unframed.TheVariants.{Untyped}
use Rattle.stackmap_maker.specs.declared.unframed.Unframed.TheVariants as unframed
use Rattle.stackmap_maker.specs.Sizes.{IsFirstLarge}

abbrev pub class_without_tables : FramedClass → Class
class_without_tables f = f.class

abbrev pub tables_of : FramedClass → List (List ℕ)
tables_of f = f.tables

-- classes with their tables
pub record AreWithTables (classes : List Class) (framed : List FramedClass) : Type 0 where
  pub are : AreFramed classes (map class_without_tables framed)
  pub tabled : AreTables classes (map class_without_tables framed) (map tables_of framed)

-- such a class can be written
pub record IsWritable (f : FramedClass) : Type 0 where
  pub class : IsClass f.class
  pub tabled : IsTabled f

-- the file of a class with its tables is too large, and that of none before it
pub record IsTooLarge (classes : List Class) (class bytes : ℕ) : Type 0 where
  pub framed : List FramedClass
  pub are : AreWithTables classes framed
  pub large : IsFirstLarge framed class bytes

-- want of memory may come anywhere
abbrev pub IsFramesRefusal : List Class → FrameError → Type 0
IsFramesRefusal classes (Refused fault) = (fault.kind ≡ 3) × (fault.method ≡ 0)
    × IsFull classes fault.class
IsFramesRefusal classes (TooLarge class bytes) = IsTooLarge classes class bytes
IsFramesRefusal classes NoMemory = Unit {0}

-- the refusal of a class whose pool has too few slots
abbrev pub IsFullFault : ℕ → FrameError → Type 0
IsFullFault class (Refused fault) = (fault.kind ≡ 3) × (fault.method ≡ 0) × (fault.class ≡ class)
IsFullFault class _ = ⊥

-- classes that link do not become classes with tables
abbrev pub IsUnframed : List Class → Unframed → Type 0
IsUnframed classes Untyped = AreNotTyped classes
IsUnframed classes (unframed.Refused error) = IsFramesRefusal classes error
