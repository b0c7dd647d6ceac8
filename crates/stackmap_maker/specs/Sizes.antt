-- JVM Specification, Java SE 7 edition, 4.1: how many bytes the file of a class with its tables has.
use Rattle.std.specs.Prelude.{◌≡◌, ℕ, ◌<◌, ◌≤◌, ◌+◌, ◌*◌, List, [], ◌∷◌, length, slice_get, Some}
use Rattle.class_definition.specs.declared.entry.Entry.{Entry}
use Rattle.class_definition.specs.PoolChecks.{slot_size}
use Rattle.class_definition.specs.declared.method.Method.{Method}
use Rattle.class_definition.specs.declared.framed_class.FramedClass.{FramedClass}
use Rattle.class_definition.specs.Tables.{table_size}

abbrev pub pool_size : List Entry → ℕ
pool_size [] = 0
pool_size (e ∷ entries) = slot_size e + pool_size entries

abbrev pub method_size : Method → List ℕ → ℕ
method_size m table = 26 + length m.code + table_size table

-- methods with their tables, as many
abbrev pub methods_size : List Method → List (List ℕ) → ℕ
methods_size [] tables = 0
methods_size (m ∷ methods) [] = 0
methods_size (m ∷ methods) (t ∷ tables) = method_size m t + methods_size methods tables

abbrev pub file_size : FramedClass → ℕ
file_size c = 24 + pool_size c.class.pool + 8 * length c.class.fields
    + methods_size c.class.methods c.tables

-- the greatest size of a file
abbrev pub most : ℕ
most = 67108864

-- the first class of which the file is too large, and how many bytes it has
pub record IsFirstLarge (framed : List FramedClass) (class bytes : ℕ) : Type 0 where
  pub of : FramedClass
  pub of_is : slice_get framed class ≡ Some of
  pub size : bytes ≡ file_size of
  pub more : most < bytes
  pub earlier : (c : ℕ) (other : FramedClass) → c < class → slice_get framed c ≡ Some other
      → file_size other ≤ most
