-- What stands in a slot stays there, and so what it names.
use Rattle.std.proofs.Common.{◌≡◌, ℕ, List, Option, Some, None, refl}
use Rattle.std.specs.Option.{option_and_then}
use Rattle.class_definition.specs.declared.entry.Entry.{Entry}
use Rattle.class_definition.specs.PoolEntries.{utf8_of, class_entry_name, name_entry}
use Rattle.class_definition.specs.PoolChecks.{entry_at, text_at}
use Rattle.emit_classes.specs.Named.{IsClassAt, IsPairAt, IsMemberAt}

-- what is found stays what it is
abbrev pub StaysSome : {A : Type 0} → Option A → Option A → Type 0
StaysSome {A} o p = (x : A) → o ≡ Some x → p ≡ Some x

pub and_then-stays : {A B : Type 0} (f g : A → Option B) (o p : Option A) → ((x : A) → StaysSome (f x) (g x)) → StaysSome o p
    → StaysSome (option_and_then f o) (option_and_then g p)
and_then-stays f g None p inner outer b is = absurd cc
and_then-stays f g (Some x) p inner outer b is = rw (outer x refl) (inner x b is)

abbrev pub Stays : List Entry → List Entry → Type 0
Stays old new = (slot : ℕ) → StaysSome (entry_at old slot) (entry_at new slot)

module _ (old new : List Entry) (stays : Stays old new) where
  pub text-stays : (slot : ℕ) → StaysSome (text_at old slot) (text_at new slot)
  text-stays slot = and_then-stays utf8_of utf8_of (entry_at old slot) (entry_at new slot) (λ x b is. is) (stays slot)

  pub class_of-stays : (slot : ℕ) → StaysSome (option_and_then class_entry_name (entry_at old slot)) (option_and_then class_entry_name (entry_at new slot))
  class_of-stays slot = and_then-stays class_entry_name class_entry_name (entry_at old slot) (entry_at new slot) (λ x b is. is) (stays slot)

  pub name_of-stays : (slot : ℕ) → StaysSome (option_and_then name_entry (entry_at old slot)) (option_and_then name_entry (entry_at new slot))
  name_of-stays slot = and_then-stays name_entry name_entry (entry_at old slot) (entry_at new slot) (λ x b is. is) (stays slot)

  pub class-stays : (slot : ℕ) (name : List ℕ) → IsClassAt old slot name → IsClassAt new slot name
  class-stays slot name is =
      and_then-stays (text_at old) (text_at new) (option_and_then class_entry_name (entry_at old slot))
      (option_and_then class_entry_name (entry_at new slot))
      text-stays (class_of-stays slot) name is

  pub pair-stays : (slot : ℕ) (name descriptor : List ℕ) → IsPairAt old slot name descriptor → IsPairAt new slot name descriptor
  pair-stays slot name descriptor p = record {
    name_slot = p.name_slot;
    descriptor_slot = p.descriptor_slot;
    there = stays slot _ p.there;
    name_is = text-stays p.name_slot name p.name_is;
    descriptor_is = text-stays p.descriptor_slot descriptor p.descriptor_is;
  }

  pub member-stays : (kind : ℕ → ℕ → Entry) (slot class : ℕ) (name descriptor : List ℕ) → IsMemberAt kind old slot class name descriptor
      → IsMemberAt kind new slot class name descriptor
  member-stays kind slot class name descriptor m =
      record { pair = m.pair; there = stays slot _ m.there; pair_is = pair-stays m.pair name descriptor m.pair_is }
