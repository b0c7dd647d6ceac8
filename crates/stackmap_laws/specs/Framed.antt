-- Classes of which each method can have a table of frames, and these tables.
use Rattle.std.specs.Prelude.{◌≡◌, ℕ, suc, ◌≤◌, List, [], ◌∷◌, length, None}
use Rattle.class_definition.specs.declared.class.Class.{Class}
use Rattle.class_definition.specs.declared.method.Method.{Method}
use Rattle.class_definition.specs.Code.{code_fault}
use Rattle.class_definition.specs.Linking.{gives_int, linked_method, program_of}
use Rattle.class_definition.specs.MemberNames.{slot_text}
use Rattle.jvm_type_inference.specs.declared.frame.Frame.{Frame}
use Rattle.type_verifier.specs.Typings.{IsListed}
use Rattle.stackmap_table.specs.Shortest.{IsTableOf}
use Rattle.stackmap_pool.specs.Longer.{framed_pool}
use Rattle.stackmap_prune.specs.Code.{is_listed, IsPrunedMethod}
use Rattle.stackmap_prune.specs.Listing.{listing_of}

-- ---- the classes

-- Each byte of code that no instruction holds to which the method may come is a return.
pub record IsPrunedOf (classes : List Class) (number : ℕ) (class : Class) (method pruned : Method)
    : Type 0 where
  -- the frames of its least typing, at the offsets that are reached
  pub reached : List (ℕ × Frame)
  pub listed : IsListed (program_of classes) (linked_method classes number class method) reached
  pub is : IsPrunedMethod (is_listed reached) (gives_int (slot_text class method.desc)) method pruned
  pub sound : code_fault pruned.code ≡ None

abbrev pub ArePruned : List Class → ℕ → Class → List Method → List Method → Type 0
ArePruned classes number class [] [] = Unit {0}
ArePruned classes number class [] (p ∷ pruned) = ⊥
ArePruned classes number class (m ∷ methods) [] = ⊥
ArePruned classes number class (m ∷ methods) (p ∷ pruned) =
    IsPrunedOf classes number class m p × ArePruned classes number class methods pruned

-- and its pool has the entries that tables name
pub record IsFramed (classes : List Class) (number : ℕ) (class framed : Class) : Type 0 where
  pub pool : framed.pool ≡ framed_pool class.pool
  pub few : length framed.pool ≤ 65534
  pub this : framed.this_class ≡ class.this_class
  pub super : framed.super_class ≡ class.super_class
  pub fields : framed.fields ≡ class.fields
  pub methods : ArePruned classes number class class.methods framed.methods

-- class by class, from a number on
abbrev pub AreFramedFrom : List Class → ℕ → List Class → List Class → Type 0
AreFramedFrom classes number [] [] = Unit {0}
AreFramedFrom classes number [] (f ∷ framed) = ⊥
AreFramedFrom classes number (c ∷ others) [] = ⊥
AreFramedFrom classes number (c ∷ others) (f ∷ framed) =
    IsFramed classes number c f × AreFramedFrom classes (suc number) others framed

abbrev pub AreFramed : List Class → List Class → Type 0
AreFramed classes framed = AreFramedFrom classes 0 classes framed

-- ---- their tables

-- Bytes are the table of a pruned method: it lists the frames at the instructions for which one has to be listed.
pub record IsTableFor (classes framed : List Class) (number : ℕ) (class pruned : Class)
    (method after : Method) (table : List ℕ) : Type 0 where
  pub reached : List (ℕ × Frame)
  pub listed : IsListed (program_of classes) (linked_method classes number class method) reached
  pub is : IsTableOf pruned.pool (linked_method framed number pruned after).parameters
      (listing_of (linked_method framed number pruned after) reached) table

abbrev pub AreTablesFor : List Class → List Class → ℕ → Class → Class → List Method → List Method
    → List (List ℕ) → Type 0
AreTablesFor classes framed number class pruned (m ∷ methods) (a ∷ after) (t ∷ tables) =
    IsTableFor classes framed number class pruned m a t
    × AreTablesFor classes framed number class pruned methods after tables
AreTablesFor classes framed number class pruned [] [] [] = Unit {0}
AreTablesFor classes framed number class pruned _ _ _ = ⊥

-- class by class, from a number on
abbrev pub AreTablesFrom : List Class → List Class → ℕ → List Class → List Class
    → List (List (List ℕ)) → Type 0
AreTablesFrom classes framed number (c ∷ others) (p ∷ pruned) (t ∷ tables) =
    AreTablesFor classes framed number c p c.methods p.methods t
    × AreTablesFrom classes framed (suc number) others pruned tables
AreTablesFrom classes framed number [] [] [] = Unit {0}
AreTablesFrom classes framed number _ _ _ = ⊥

abbrev pub AreTables : List Class → List Class → List (List (List ℕ)) → Type 0
AreTables classes framed tables = AreTablesFrom classes framed 0 classes framed tables
