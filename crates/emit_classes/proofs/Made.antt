-- What the entries that were put in name.
use Rattle.std.proofs.Common.{◌≡◌, ℕ, true, List, Option, Some, None, refl}
use Rattle.class_definition.specs.declared.entry.Entry.{Entry}
use Rattle.class_definition.specs.declared.entry.Entry.TheVariants.{ClassName, NameAnd}
use Rattle.class_definition.specs.declared.entry.Entry.TheVariants as entries
use Rattle.class_definition.specs.PoolChecks.{entry_at}
use Rattle.constant_pool.specs.Slots.{IsAt}
use Rattle.emit_assembly.specs.Assembling.{Extends}
use Rattle.emit_classes.specs.Lawful.{is_class, has_class}
use Rattle.emit_classes.specs.Named.{IsTextAt, IsClassAt, IsPairAt, IsMemberAt}
use Rattle.emit_classes.proofs.Stays.{StaysSome, text-stays, class-stays, pair-stays}
use Rattle.emit_classes.proofs.Growing.{stays-behind}

pub text-later : (old new : List Entry) (slot : ℕ) (text : List ℕ) → Extends old new → IsTextAt old slot text → IsTextAt new slot text
text-later old new slot text x at = text-stays old new (stays-behind old new x) slot text at

pub class-later : (old new : List Entry) (slot : ℕ) (name : List ℕ) → Extends old new → IsClassAt old slot name → IsClassAt new slot name
class-later old new slot name x at = class-stays old new (stays-behind old new x) slot name at

pub text-made : (pool : List Entry) (slot : ℕ) (characters text : List ℕ) → characters ≡ text → IsAt pool slot (entries.Utf8 characters)
    → IsTextAt pool slot text
text-made pool slot characters text is at = rw (at, is) refl

pub class-made : (old new : List Entry) (text slot : ℕ) (name : List ℕ) → Extends old new → IsTextAt old text name
    → IsAt new slot (ClassName text) → IsClassAt new slot name
class-made old new text slot name x named at = rw at (text-later old new text name x named)

pub pair-made : (old mid new : List Entry) (first second slot : ℕ) (name descriptor : List ℕ) → Extends old mid → Extends mid new
    → IsTextAt old first name → IsTextAt mid second descriptor
    → IsAt new slot (NameAnd first second) → IsPairAt new slot name descriptor
pair-made old mid new first second slot name descriptor x y named described at = record {
  name_slot = first;
  descriptor_slot = second;
  there = at;
  name_is = text-later mid new first name y (text-later old mid first name x named);
  descriptor_is = text-later mid new second descriptor y described;
}

pub member-made : (kind : ℕ → ℕ → Entry) (old new : List Entry) (class pair slot : ℕ) (name descriptor : List ℕ) (e : Entry)
    → Extends old new → IsPairAt old pair name descriptor
    → e ≡ kind class pair → IsAt new slot e → IsMemberAt kind new slot class name descriptor
member-made kind old new class pair slot name descriptor e x is same at =
    record { pair = pair; there = rw same at at; pair_is = pair-stays old new (stays-behind old new x) pair name descriptor is }

-- ---- what slots keep

class-same : (o p : Option Entry) → StaysSome o p → is_class o ≡ true → is_class p ≡ true
class-same None p stays is = absurd cc
class-same (Some e) p stays is = rw (stays e refl) is

pub has_class-later : (old new : List Entry) (slot : ℕ) → Extends old new → has_class old slot ≡ true → has_class new slot ≡ true
has_class-later old new slot x is = class-same (entry_at old slot) (entry_at new slot) (stays-behind old new x slot) is
