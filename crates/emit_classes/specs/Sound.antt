-- What a class that is made keeps: it could be written at any time.
use Rattle.std.specs.Prelude.{◌≡◌, ℕ, true, false, List, slice_index_or, Option, Some, None, length}
use Rattle.class_definition.specs.declared.entry.Entry.{Entry}
use Rattle.class_definition.specs.declared.entry.Entry.TheVariants.{Utf8, ClassName}
use Rattle.class_definition.specs.PoolEntries.{slot}
use Rattle.class_definition.specs.PoolChecks.{pool, entry_at, pool_entry_fault}
use Rattle.emit_classes.specs.declared.slot_kind.SlotKind.{SlotKind}
use Rattle.emit_classes.specs.declared.slot_kind.SlotKind.TheVariants.{Text, Class, Other}

-- the entries are those of a class file
abbrev pub IsPool : List Entry → Type 0
IsPool entries = pool.fits entries ≡ true

abbrev pub kind_of : Option Entry → SlotKind
kind_of (Some (Utf8 characters)) = Text
kind_of (Some (ClassName name)) = Class
kind_of _ = Other

-- the kinds of what stands in the slots, of all slots that there can be
pub record AreKinds (entries : List Entry) (kinds : List SlotKind) : Type 0 where
  pub count : length kinds ≡ 65536
  pub kind : (slot : ℕ) → slice_index_or kinds slot Other ≡ kind_of (entry_at entries slot)

pub record IsKeptBuilder (entries : List Entry) (kinds : List SlotKind) : Type 0 where
  pub sound : IsPool entries
  pub kinds_are : AreKinds entries kinds

-- an entry of one slot that may be put behind the entries of a class file
pub record MayJoin (entries : List Entry) (e : Entry) : Type 0 where
  pub spelled : (slot false 0).fits e ≡ true
  pub sound : pool_entry_fault entries e ≡ None
