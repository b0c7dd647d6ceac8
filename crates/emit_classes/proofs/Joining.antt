-- Entries that may be put behind those of a class file.
use Rattle.std.proofs.Common.{◌≡◌, ℕ, suc, ◌<◌, ◌&&◌, ◌||◌, Bool, true, false, ltb, eqb, List, [], ◌∷◌, length, get_or, IsTrue, Option}
use Rattle.std.proofs.Common.{Some, None, if◌then◌else◌, refl, arith}
use Rattle.std.specs.List.{list_any}
use Rattle.std.specs.Option.{option_and_then}
use Rattle.std.proofs.lemmas.Bool.{and_from, lt-ltb, ltb-false, eq-eqb, or_left, or_right, and_parts}
use Rattle.class_definition.specs.Kinds.{utf8}
use Rattle.class_definition.specs.declared.entry.Entry.{Entry}
use Rattle.class_definition.specs.declared.entry.Entry.TheVariants.{Utf8, Integer, Long, LongRest, ClassName, Text, FieldRef, MethodRef}
use Rattle.class_definition.specs.declared.entry.Entry.TheVariants.{NameAnd}
use Rattle.class_definition.specs.Utf8.{text_bytes, has_16_bit_characters}
use Rattle.class_definition.specs.NameGrammar.{is_member_name, is_field_descriptor, is_method_descriptor}
use Rattle.class_definition.specs.PoolEntries.{entry, class_entry_name, name_entry}
use Rattle.class_definition.specs.PoolChecks.{entry_at, pool_entry_fault, pair_fault, ref_fault}
use Rattle.emit_classes.specs.Sound.{MayJoin}
use Rattle.emit_classes.specs.declared.member_kind.MemberKind.{MemberKind}
use Rattle.emit_classes.specs.declared.member_kind.MemberKind.TheVariants.{Field, Method}
use Rattle.emit_classes.specs.Named.{IsTextAt, IsPairAt}
use Rattle.emit_classes.specs.Lawful.{names_class, is_class, has_class, is_member, member_entry, names_member}
use Rattle.emit_classes.specs.Built.{is_long_text}

-- ---- texts

pub text-is : (cs : List ℕ) → ((i : ℕ) → get_or cs i 0 < 65536) → has_16_bit_characters cs ≡ true
text-is [] small = refl
text-is (c ∷ cs) small = and_from (ltb c 65536) (has_16_bit_characters cs) (lt-ltb c 65536 (small 0)) (text-is cs (λ i. small (suc i)))

not_above : (size : ℕ) → ltb 65535 size ≡ false → ltb size 65536 ≡ true
not_above size short = lt-ltb size 65536 (omega (arith, ltb-false 65535 size short))

pub text-joins : (pool : List Entry) (cs : List ℕ) → is_long_text cs ≡ false → has_16_bit_characters cs ≡ true → MayJoin pool (Utf8 cs)
unfolding entry pool_entry_fault
text-joins pool cs short text = record {
  spelled = and_from _ (has_16_bit_characters cs)
      (and_from (ltb (length (text_bytes cs)) 65536) (eqb (length (text_bytes cs)) (length (text_bytes cs)))
      (not_above (length (text_bytes cs)) short) (eq-eqb (length (text_bytes cs)) (length (text_bytes cs)) refl)) text;
  sound = refl;
}

pub one_long : (text : List ℕ) → is_long_text text ≡ true → IsTrue (list_any is_long_text (text ∷ []))
one_long text long = or_left (is_long_text text) false long

-- ---- what names texts and classes

pub class-joins : (pool : List Entry) (text : ℕ) (name : List ℕ) → text < 65536 → IsTextAt pool text name → names_class name ≡ true
    → MayJoin pool (ClassName text)
unfolding entry pool_entry_fault
class-joins pool text name small at lawful =
    record { spelled = lt-ltb text 65536 small; sound = rw at (rw lawful refl) }

pub pair-joins : (pool : List Entry) (first second : ℕ) (name descriptor : List ℕ) → first < 65536 → second < 65536
    → IsTextAt pool first name → IsTextAt pool second descriptor → pair_fault (Some name) (Some descriptor) ≡ None
    → MayJoin pool (NameAnd first second)
unfolding entry pool_entry_fault
pair-joins pool first second name descriptor small low at there lawful = record {
  spelled = and_from (ltb first 65536) (ltb second 65536) (lt-ltb first 65536 small) (lt-ltb second 65536 low);
  sound = rw (at, there) lawful;
}

-- ---- members

-- a class stands in a slot
class-there : (o : Option Entry) → is_class o ≡ true → (name : ℕ) × (option_and_then class_entry_name o ≡ Some name)
class-there None is = absurd cc
class-there (Some (Utf8 cs)) is = absurd cc
class-there (Some (Integer n)) is = absurd cc
class-there (Some (Long n)) is = absurd cc
class-there (Some LongRest) is = absurd cc
class-there (Some (ClassName n)) is = (n, refl)
class-there (Some (Text n)) is = absurd cc
class-there (Some (FieldRef n m)) is = absurd cc
class-there (Some (MethodRef n m)) is = absurd cc
class-there (Some (NameAnd n m)) is = absurd cc

reference-sound : (pool : List Entry) (test : List ℕ → Bool) (class pair : ℕ) (name descriptor : List ℕ) → has_class pool class ≡ true
    → IsPairAt pool pair name descriptor
    → test descriptor ≡ true
    → ref_fault pool test (option_and_then class_entry_name (entry_at pool class)) (option_and_then name_entry (entry_at pool pair)) ≡ None
reference-sound pool test class pair name descriptor is p lawful =
    let there = (class-there (entry_at pool class) is).1 in
    rw (there, p.there, p.descriptor_is, lawful) refl

pub member-joins : (kind : MemberKind) (pool : List Entry) (class pair : ℕ) (name descriptor : List ℕ) → class < 65536 → pair < 65536
    → has_class pool class ≡ true
    → IsPairAt pool pair name descriptor → names_member kind name descriptor ≡ true → MayJoin pool (member_entry kind class pair)
unfolding entry pool_entry_fault
member-joins Field pool class pair name descriptor small low is p lawful = record {
  spelled = and_from (ltb class 65536) (ltb pair 65536) (lt-ltb class 65536 small) (lt-ltb pair 65536 low);
  sound = reference-sound pool is_field_descriptor class pair name descriptor is p
      (and_parts (is_member_name name) (is_field_descriptor descriptor) lawful).1;
}
member-joins Method pool class pair name descriptor small low is p lawful = record {
  spelled = and_from (ltb class 65536) (ltb pair 65536) (lt-ltb class 65536 small) (lt-ltb pair 65536 low);
  sound = reference-sound pool is_method_descriptor class pair name descriptor is p
      (and_parts (is_member_name name) (is_method_descriptor descriptor) lawful).1;
}

-- what is asked of a member
module _ (kind : MemberKind) (pool : List Entry) (class : ℕ) (name descriptor : List ℕ)
    (is : is_member kind pool class name descriptor ≡ true) where
  pub member-class : has_class pool class ≡ true
  member-class = (and_parts (has_class pool class) (names_member kind name descriptor) is).0

  pub member-lawful : names_member kind name descriptor ≡ true
  member-lawful = (and_parts (has_class pool class) (names_member kind name descriptor) is).1

-- the pair of a member is lawful
lawful-pair : (n f m : Bool) (kind : ℕ) → n ≡ true → (f || m) ≡ true → (if n && (f || m) then None else Some kind) ≡ None
lawful-pair n f m kind one other = let both : (n && (f || m)) ≡ true = and_from n (f || m) one other in rw both refl

pub pair-lawful : (kind : MemberKind) (name descriptor : List ℕ) → names_member kind name descriptor ≡ true
    → pair_fault (Some name) (Some descriptor) ≡ None
pair-lawful Field name descriptor lawful =
    let p = and_parts (is_member_name name) (is_field_descriptor descriptor) lawful in
    lawful-pair (is_member_name name) (is_field_descriptor descriptor) (is_method_descriptor descriptor) utf8 p.0
    (or_left (is_field_descriptor descriptor) (is_method_descriptor descriptor) p.1)
pair-lawful Method name descriptor lawful =
    let p = and_parts (is_member_name name) (is_method_descriptor descriptor) lawful in
    lawful-pair (is_member_name name) (is_field_descriptor descriptor) (is_method_descriptor descriptor) utf8 p.0
    (or_right (is_field_descriptor descriptor) (is_method_descriptor descriptor) p.1)
