-- Methods and classes that became others, with tables of frames.
use Rattle.std.specs.Prelude.{◌≡◌, ℕ, suc, ◌<◌, ◌≤◌, List, [], ◌∷◌, ◌++◌, length, slice_get, Some}
use Rattle.class_definition.specs.declared.entry.Entry.{Entry}
use Rattle.class_definition.specs.declared.class.Class.{Class}
use Rattle.class_definition.specs.declared.method.Method.{Method}
use Rattle.class_definition.specs.declared.framed_class.FramedClass.{FramedClass}
use Rattle.class_definition.specs.Linking.{linked_method}
use Rattle.jvm_definition.specs.declared.kind.Kind.{Kind}
use Rattle.jvm_type_inference.specs.declared.frame.Frame.{Frame}
use Rattle.stackmap_table.specs.Shortest.{IsTableOf}
use Rattle.stackmap_pool.specs.Longer.{framed_pool}
use Rattle.stackmap_prune.specs.Linked.{listing_behind}
use Rattle.stackmap_laws.specs.Framed.{IsPrunedOf}
use Rattle.stackmap_maker.specs.Sizes.{methods_size, file_size, most, IsFirstLarge}
use Rattle.stackmap_maker.specs.declared.sized_class.SizedClass.{SizedClass}
use Rattle.stackmap_maker.specs.declared.tabled_classes.TabledClasses.{TabledClasses}
use Rattle.stackmap_maker.specs.declared.tabled_classes.TabledClasses.TheVariants.{Framed, TooLarge}

-- a method of a class became another one, which has a table over a pool
pub record IsMade (classes : List Class) (number : ℕ) (class : Class) (pool : List Entry)
    (method pruned : Method) (table : List ℕ) : Type 0 where
  pub is : IsPrunedOf classes number class method pruned
  pub tabled : IsTableOf pool (linked_method classes number class method).parameters
      (listing_behind (linked_method classes number class method) is.reached) table

abbrev pub AreMade : List Class → ℕ → Class → List Entry → List Method → List Method
    → List (List ℕ) → Type 0
AreMade classes number class pool (m ∷ methods) (p ∷ pruned) (t ∷ tables) =
    IsMade classes number class pool m p t × AreMade classes number class pool methods pruned tables
AreMade classes number class pool [] [] [] = Unit {0}
AreMade classes number class pool _ _ _ = ⊥

-- a class became another one
pub record IsClassMade (classes : List Class) (number : ℕ) (class : Class) (made : FramedClass)
    : Type 0 where
  pub pool : made.class.pool ≡ framed_pool class.pool
  pub few : length made.class.pool ≤ 65534
  pub this : made.class.this_class ≡ class.this_class
  pub super : made.class.super_class ≡ class.super_class
  pub fields : made.class.fields ≡ class.fields
  pub methods : AreMade classes number class made.class.pool class.methods made.class.methods
      made.tables

-- class by class, from a number on
abbrev pub AreClassesMadeFrom : List Class → ℕ → List Class → List FramedClass → Type 0
AreClassesMadeFrom classes number [] [] = Unit {0}
AreClassesMadeFrom classes number [] (m ∷ made) = ⊥
AreClassesMadeFrom classes number (c ∷ others) [] = ⊥
AreClassesMadeFrom classes number (c ∷ others) (m ∷ made) =
    IsClassMade classes number c m × AreClassesMadeFrom classes (suc number) others made

abbrev pub AreClassesMade : List Class → List FramedClass → Type 0
AreClassesMade classes made = AreClassesMadeFrom classes 0 classes made

-- ---- what is written has at most so many bytes

-- a table has a size, and is there where it has at most so many bytes
pub record IsTableWithin (pool : List Entry) (parameters : List Kind) (listed : List (ℕ × Frame))
    (room : ℕ) (table : List ℕ) (size : ℕ) : Type 0 where
  pub all : List ℕ
  pub is : IsTableOf pool parameters listed all
  pub sized : size ≡ length all
  pub written : size ≤ room → table ≡ all

pub record IsMadeWithin (classes : List Class) (number : ℕ) (class : Class) (pool : List Entry)
    (room : ℕ) (method pruned : Method) (table : List ℕ) (size : ℕ) : Type 0 where
  pub all : List ℕ
  pub is : IsMade classes number class pool method pruned all
  pub sized : size ≡ length all
  pub written : size ≤ room → table ≡ all

pub record AreMadeWithin (classes : List Class) (number : ℕ) (class : Class) (pool : List Entry)
    (room : ℕ) (methods pruned : List Method) (tables : List (List ℕ)) (bytes : ℕ) : Type 0 where
  pub all : List (List ℕ)
  pub are : AreMade classes number class pool methods pruned all
  pub sized : bytes ≡ methods_size pruned all
  pub written : bytes ≤ room → tables ≡ all

pub record IsClassMadeWithin (classes : List Class) (number : ℕ) (class : Class) (room : ℕ)
    (made : SizedClass) : Type 0 where
  pub all : FramedClass
  pub is : IsClassMade classes number class all
  pub sized : made.bytes ≡ file_size all
  pub written : made.bytes ≤ room → made.framed ≡ all

-- the files of all are small enough
abbrev pub AreSmall : List FramedClass → Type 0
AreSmall framed =
    (c : ℕ) (other : FramedClass) → slice_get framed c ≡ Some other → file_size other ≤ most

-- what became of the first classes
abbrev pub AreTabledTo : List Class → List Class → TabledClasses → Type 0
AreTabledTo classes first (Framed framed) =
    AreClassesMadeFrom classes 0 first framed.items × AreSmall framed.items
AreTabledTo classes first (TooLarge class bytes) =
    (all : List FramedClass) × AreClassesMadeFrom classes 0 first all × IsFirstLarge all class bytes

abbrev pub AreTabledFor : List Class → TabledClasses → Type 0
AreTabledFor classes tabled = AreTabledTo classes classes tabled

-- how many bytes of one more class are written
abbrev pub IsRoomOf : TabledClasses → ℕ → Type 0
IsRoomOf (Framed framed) room = room ≡ most
IsRoomOf (TooLarge class bytes) room = Unit {0}

-- one more class, which has a number
abbrev pub IsWithClass : TabledClasses → ℕ → SizedClass → TabledClasses → Type 0
IsWithClass (Framed framed) number made (Framed after) =
    (made.bytes ≤ most) × (after.items ≡ framed.items ++ made.framed ∷ [])
IsWithClass (Framed framed) number made (TooLarge class bytes) =
    (most < made.bytes) × (class ≡ number) × (bytes ≡ made.bytes)
IsWithClass (TooLarge class bytes) number made (Framed after) = ⊥
IsWithClass (TooLarge class bytes) number made (TooLarge same_class same_bytes) =
    (same_class ≡ class) × (same_bytes ≡ bytes)
