-- Fields, methods and classes by the numbers of their texts.
use Rattle.std.specs.Prelude.{◌≡◌, ℕ, ◌&&◌, ◌||◌, ◌==◌, nat_eq, Bool, true, false, if◌then◌else◌, List, [], ◌∷◌, map, position, Option, Some, None}
use Rattle.std.specs.List.{list_any}
use Rattle.std.specs.Ordering.{on, eq_of_both}
use Rattle.class_definition.specs.declared.entry.Entry.{Entry}
use Rattle.class_definition.specs.declared.entry.Entry.TheVariants.{ClassName, NameAnd}
use Rattle.class_definition.specs.PoolChecks.{entry_at}
use Rattle.class_definition.specs.declared.class.Class.{Class}
use Rattle.class_names.specs.declared.key.Key.{Key}
use Rattle.class_names.specs.declared.numbered_class.NumberedClass.{NumberedClass}
use Rattle.class_definition.specs.MemberNames.{slot_text, own_name, Reference, is_known, has_class, field_number, method_number, fields_named, methods_named}
use Rattle.class_definition.specs.LinkFault.{other_descriptors, no_field, no_method, member_fault}
use Rattle.class_names.specs.Numbers.{IsNumber, number_at}

-- each slot has the number of its text
abbrev pub IsNumbered : List (List ℕ) → NumberedClass → Type 0
IsNumbered texts x = (slot : ℕ)
    → IsNumber texts (number_at x.numbers slot) (slot_text x.class.now slot)

abbrev pub classes_in : List NumberedClass → List Class
classes_in xs = map (λ x. x.class.now) xs

-- ---- keys

abbrev pub same_key : Key → Key → Bool
same_key = eq_of_both (on (λ k. k.class) nat_eq)
    (eq_of_both (on (λ k. k.name) nat_eq) (on (λ k. k.descriptor) nat_eq))

-- but for the descriptor
abbrev pub same_name : Key → Key → Bool
same_name k l = k.class == l.class && k.name == l.name

-- what a key stands for
pub record IsKey (texts : List (List ℕ)) (k : Key) (r : Reference) : Type 0 where
  pub class : IsNumber texts k.class r.class_name
  pub name : IsNumber texts k.name r.signature.name
  pub descriptor : IsNumber texts k.descriptor r.signature.descriptor

-- ---- the keys of a class

abbrev pub class_number : (ℕ → ℕ) → Option Entry → ℕ
class_number number (Some (ClassName name)) = number name
class_number number _ = 0

abbrev pub pair_numbers : (ℕ → ℕ) → Option Entry → ℕ × ℕ
pair_numbers number (Some (NameAnd name descriptor)) = (number name, number descriptor)
pair_numbers number _ = (0, 0)

abbrev pub class_number_at : NumberedClass → ℕ → ℕ
class_number_at x slot = class_number (number_at x.numbers) (entry_at x.class.now.pool slot)

abbrev pub key_at : NumberedClass → ℕ → ℕ → Key
key_at x class name = record {
  class = class_number_at x class;
  name = (pair_numbers (number_at x.numbers) (entry_at x.class.now.pool name)).0;
  descriptor = (pair_numbers (number_at x.numbers) (entry_at x.class.now.pool name)).1;
}

abbrev pub own_number : NumberedClass → ℕ
own_number x = class_number_at x x.class.now.this_class

abbrev pub own_key : NumberedClass → ℕ → ℕ → Key
own_key x name descriptor = record {
  class = own_number x;
  name = number_at x.numbers name;
  descriptor = number_at x.numbers descriptor;
}

abbrev pub field_keys : NumberedClass → List Key
field_keys x = map (λ f. own_key x f.name f.desc) x.class.now.fields

abbrev pub method_keys : NumberedClass → List Key
method_keys x = map (λ m. own_key x m.name m.desc) x.class.now.methods

-- ---- faults

abbrev pub has_equal_keys : List Key → Bool
has_equal_keys [] = false
has_equal_keys (k ∷ keys) = list_any (same_key k) keys || has_equal_keys keys

-- a class with the name of one before it or of a known one, or with two equal members
abbrev pub is_twice_by : List ℕ → NumberedClass → Bool
is_twice_by before x =
    list_any (nat_eq (own_number x)) before || is_known (own_name x.class.now)
    || has_equal_keys (field_keys x) || has_equal_keys (method_keys x)

abbrev pub key_fault : ℕ → List Key → Key → Option ℕ
key_fault missing keys k =
    if list_any (same_key k) keys then None else if list_any (same_name k) keys
    then Some other_descriptors else Some missing

-- what the keys of fields and methods, and the numbers of names, say of classes
pub record Knows (texts : List (List ℕ)) (names : List ℕ) (fields methods : List Key)
    (classes : List Class) : Type 0 where
  pub class : (n : ℕ) (text : List ℕ) → IsNumber texts n text
      → list_any (nat_eq n) names ≡ has_class classes text
  pub field : (k : Key) (r : Reference) → IsKey texts k r
      → position (same_key k) fields ≡ field_number classes r
  pub method : (k : Key) (r : Reference) → IsKey texts k r
      → position (same_key k) methods ≡ method_number classes r
  pub field_fault : (k : Key) (r : Reference) → IsKey texts k r
      → key_fault no_field fields k
      ≡ member_fault no_field (fields_named classes r.class_name) r.signature
  pub method_fault : (k : Key) (r : Reference) → IsKey texts k r
      → has_class classes r.class_name ≡ true → key_fault no_method methods k
      ≡ member_fault no_method (methods_named classes r.class_name) r.signature
