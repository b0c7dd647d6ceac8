-- Why classes cannot have tables: a method is not typed, or a pool has too few slots for the
-- entries that tables name.
use Rattle.std.specs.Prelude.{◌≡◌, ℕ, ◌<◌, ◌≤◌, List, length, slice_get, Some}
use Rattle.class_definition.specs.declared.class.Class.{Class}
use Rattle.class_definition.specs.Linking.{program_of}
use Rattle.jvm_type_inference.specs.Verdict.{AllLeastTyped}
use Rattle.stackmap_pool.specs.Longer.{framed_pool}
use Rattle.stackmap_maker.specs.declared.unmade.Unmade.{Unmade}
use Rattle.stackmap_maker.specs.declared.unmade.Unmade.TheVariants.{Untyped, Full, NoMemory}

-- not each method has a least typing
abbrev pub AreNotTyped : List Class → Type 0
AreNotTyped classes = AllLeastTyped (program_of classes) → ⊥

-- the first class of which the pool would have more slots than a pool can have
pub record IsFull (classes : List Class) (class : ℕ) : Type 0 where
  pub of : Class
  pub of_is : slice_get classes class ≡ Some of
  pub full : 65534 < length (framed_pool of.pool)
  pub earlier : (c : ℕ) (other : Class) → c < class → slice_get classes c ≡ Some other
      → length (framed_pool other.pool) ≤ 65534

-- why a class with a number has none; want of memory may come anywhere
abbrev pub IsUnmadeAt : List Class → ℕ → Class → Unmade → Type 0
IsUnmadeAt classes number class Untyped = AreNotTyped classes
IsUnmadeAt classes number class (Full full) = (full ≡ number)
    × (65534 < length (framed_pool class.pool))
IsUnmadeAt classes number class NoMemory = Unit {0}

-- why classes have none
abbrev pub IsUnmade : List Class → Unmade → Type 0
IsUnmade classes Untyped = AreNotTyped classes
IsUnmade classes (Full class) = IsFull classes class
IsUnmade classes NoMemory = Unit {0}
