-- A class stays one that can be written when its pool grows and members are put behind the others.
use Rattle.std.proofs.Common.{◌≡◌, ℕ, ◌<◌, ◌≤◌, ◌&&◌, Bool, true, ltb, eqb, List, [], ◌∷◌, ◌++◌, length, Option, Some, None, refl, arith}
use Rattle.std.proofs.Common.{codes}
use Rattle.std.specs.Int.{w16}
use Rattle.std.proofs.lemmas.Bool.{and_parts, and_from, lt-ltb, ltb-true, eq-eqb}
use Rattle.class_definition.specs.Kinds.{cut, index}
use Rattle.class_definition.specs.Format.{Format, both, counted, repeated, chain_fits, behind, fault_unless, is_sound}
use Rattle.class_definition.specs.declared.entry.Entry.{Entry}
use Rattle.class_definition.specs.NameGrammar.{is_class_file_name, is_member_name, is_field_descriptor}
use Rattle.class_definition.specs.PoolChecks.{text_at, class_text_at, text_fault, pool}
use Rattle.class_definition.specs.declared.class.Class.{Class}
use Rattle.class_definition.specs.declared.member.Member.{Member}
use Rattle.class_definition.specs.declared.method.Method.{Method}
use Rattle.class_definition.specs.Named.{fault_here, slot_of, text_slot, this_slot, is_object, super_slot, is_own_descriptor, code_name_fault}
use Rattle.class_definition.specs.Named.{code_name_slot}
use Rattle.class_definition.specs.Members.{attributes, field, CodeHead, code_attribute, method_parts, method}
use Rattle.class_definition.specs.ClassFile.{preamble, class_slots, members, class}
use Rattle.emit_classes.specs.Named.{IsClassAt}
use Rattle.emit_classes.specs.Sound.{IsPool}
use Rattle.emit_classes.proofs.Stays.{StaysSome, Stays, text-stays, class-stays}
use Rattle.emit_classes.proofs.Sound.{text_fault-stays}

-- ---- slots with a fault of what stands there

abbrev Spares : Option ℕ → Option ℕ → Type 0
Spares a b = a ≡ None → b ≡ None

here-spared : (a b : Option ℕ) → Spares a b → is_sound (fault_here a) ≡ true → is_sound (fault_here b) ≡ true
here-spared None b spares sound = rw (spares refl) refl
here-spared (Some kind) b spares sound = absurd cc

slot-spared : (f g : ℕ → Option ℕ) (n : ℕ) → Spares (f n) (g n) → (slot_of f).fits n ≡ true → (slot_of g).fits n ≡ true
slot-spared f g n spares fits =
    let p = and_parts (ltb n 65536) (is_sound (fault_here (f n))) fits in
    and_from (ltb n 65536) (is_sound (fault_here (g n))) p.0 (here-spared (f n) (g n) spares p.1)

code_name-stays : (o p : Option (List ℕ)) → StaysSome o p → Spares (code_name_fault o) (code_name_fault p)
code_name-stays None p stays none = absurd cc
code_name-stays (Some name) p stays none = rw (stays name refl) none

object-stays : (o p : Option (List ℕ)) → StaysSome o p → is_sound (fault_unless index (is_object o)) ≡ true
    → is_sound (fault_unless index (is_object p)) ≡ true
object-stays None p stays sound = absurd cc
object-stays (Some name) p stays sound = rw (stays name refl) sound

abbrev pub fit_all : {A : Type 0} → Format A → List A → Bool
fit_all f xs = chain_fits {S = Unit {0}} (λ _ _. f) (λ s _. s) tt xs

all-fit : {A : Type 0} (f g : Format A) → ((a : A) → f.fits a ≡ true → g.fits a ≡ true) → (xs : List A) → fit_all f xs ≡ true
    → fit_all g xs ≡ true
all-fit f g each [] fits = refl
all-fit f g each (x ∷ xs) fits =
    let p = and_parts (f.fits x) (fit_all f xs) fits in
    and_from (g.fits x) (fit_all g xs) (each x p.0) (all-fit f g each xs p.1)

pub all-fit-push : {A : Type 0} (f : Format A) (xs : List A) (y : A) → fit_all f xs ≡ true → f.fits y ≡ true
    → fit_all f (xs ++ y ∷ []) ≡ true
all-fit-push f [] y fits one = and_from (f.fits y) true one refl
all-fit-push f (x ∷ xs) y fits one =
    let p = and_parts (f.fits x) (fit_all f xs) fits in
    and_from (f.fits x) (fit_all f (xs ++ y ∷ [])) p.0 (all-fit-push f xs y p.1 one)

-- ---- a pool that grows

abbrev pub named_code : List Entry → Format (ℕ × (CodeHead × List ℕ))
named_code es = behind (attributes 1) (both (code_name_slot es) (λ _. code_attribute))

module _ (old new : List Entry) (stays : Stays old new) where
  text_slot-stays : (test : List ℕ → Bool) (n : ℕ) → (text_slot old test).fits n ≡ true → (text_slot new test).fits n ≡ true
  text_slot-stays test n fits =
      slot-spared (λ m. text_fault test (text_at old m)) (λ m. text_fault test (text_at new m)) n
      (text_fault-stays test (text_at old n) (text_at new n) (text-stays old new stays n)) fits

  this_slot-stays : (n : ℕ) → (this_slot old).fits n ≡ true → (this_slot new).fits n ≡ true
  this_slot-stays n fits =
      slot-spared (λ m. text_fault is_class_file_name (class_text_at old m)) (λ m. text_fault is_class_file_name (class_text_at new m)) n
      (text_fault-stays is_class_file_name (class_text_at old n) (class_text_at new n) (class-stays old new stays n)) fits

  super_slot-stays : (n : ℕ) → (super_slot old).fits n ≡ true → (super_slot new).fits n ≡ true
  super_slot-stays n fits =
      let p = and_parts (ltb n 65536) (is_sound (fault_unless index (is_object (class_text_at old n)))) fits in
      and_from (ltb n 65536) (is_sound (fault_unless index (is_object (class_text_at new n)))) p.0
      (object-stays (class_text_at old n) (class_text_at new n) (class-stays old new stays n) p.1)

  pub class_slots-stay : (this super : ℕ) → (class_slots old).fits (this, super) ≡ true → (class_slots new).fits (this, super) ≡ true
  unfolding class_slots
  class_slots-stay this super fits =
      let p = and_parts ((this_slot old).fits this && (super_slot old).fits super) true fits in
      let q = and_parts ((this_slot old).fits this) ((super_slot old).fits super) p.0 in
      and_from ((this_slot new).fits this && (super_slot new).fits super) true
      (and_from ((this_slot new).fits this) ((super_slot new).fits super) (this_slot-stays this q.0) (super_slot-stays super q.1)) refl

  field-stays : (f : Member) → (field old).fits f ≡ true → (field new).fits f ≡ true
  unfolding field
  field-stays f fits =
      let p = and_parts ((text_slot old is_member_name).fits f.name && (text_slot old is_field_descriptor).fits f.desc) true fits in
      let q = and_parts ((text_slot old is_member_name).fits f.name) ((text_slot old is_field_descriptor).fits f.desc) p.0 in
      and_from ((text_slot new is_member_name).fits f.name && (text_slot new is_field_descriptor).fits f.desc) true
      (and_from ((text_slot new is_member_name).fits f.name) ((text_slot new is_field_descriptor).fits f.desc)
      (text_slot-stays is_member_name f.name q.0) (text_slot-stays is_field_descriptor f.desc q.1)) refl

  method-stays : (m : Method) → (method old).fits m ≡ true → (method new).fits m ≡ true
  unfolding method
  method-stays m fits =
      let b = method_parts m in
      let p = and_parts ((text_slot old is_member_name).fits m.name && (text_slot old is_own_descriptor).fits m.desc)
      ((named_code old).fits b.1) fits in
      let q = and_parts ((text_slot old is_member_name).fits m.name) ((text_slot old is_own_descriptor).fits m.desc) p.0 in
      let r = and_parts ((code_name_slot old).fits m.attr) (code_attribute.fits b.1.1) p.1 in
      let attr = slot-spared (λ n. code_name_fault (text_at old n)) (λ n. code_name_fault (text_at new n)) m.attr
      (code_name-stays (text_at old m.attr) (text_at new m.attr) (text-stays old new stays m.attr)) r.0 in
      and_from ((text_slot new is_member_name).fits m.name && (text_slot new is_own_descriptor).fits m.desc) ((named_code new).fits b.1)
      (and_from ((text_slot new is_member_name).fits m.name) ((text_slot new is_own_descriptor).fits m.desc)
      (text_slot-stays is_member_name m.name q.0) (text_slot-stays is_own_descriptor m.desc q.1))
      (and_from ((code_name_slot new).fits m.attr) (code_attribute.fits b.1.1) attr r.1)

-- ---- a class

pub class_slots-fit : (pool : List Entry) (this super : ℕ) (name : List ℕ) → this < 65536 → super < 65536 → IsClassAt pool this name
    → is_class_file_name name ≡ true
    → IsClassAt pool super (codes "java/lang/Object") → (class_slots pool).fits (this, super) ≡ true
unfolding class_slots
class_slots-fit pool this super name small low own lawful object =
    and_from ((this_slot pool).fits this && (super_slot pool).fits super) true
    (and_from ((this_slot pool).fits this) ((super_slot pool).fits super)
    (and_from (ltb this 65536) (is_sound (fault_here (text_fault is_class_file_name (class_text_at pool this)))) (lt-ltb this 65536 small)
    (rw own (rw lawful refl)))
    (and_from (ltb super 65536) (is_sound (fault_unless index (is_object (class_text_at pool super)))) (lt-ltb super 65536 low)
    (rw object refl))) refl

-- what is asked of a class, part by part
pub record Parts (c : Class) : Type 0 where
  pub pool_is : IsPool c.pool
  pub slots : (class_slots c.pool).fits (c.this_class, c.super_class) ≡ true
  pub few_fields : length c.fields ≤ 65535
  pub fields_fit : fit_all (field c.pool) c.fields ≡ true
  pub few_methods : length c.methods ≤ 65535
  pub methods_fit : fit_all (method c.pool) c.methods ≡ true

abbrev counts : {A : Type 0} → Format A → List A → Bool
counts f xs = (counted cut w16 f).fits xs

record Counted {A : Type 0} (f : Format A) (xs : List A) : Type 0 where
  pub few : length xs ≤ 65535
  pub fit : fit_all f xs ≡ true

counted-parts : {A : Type 0} (f : Format A) (xs : List A) → counts f xs ≡ true → Counted f xs
counted-parts f xs fits =
    let p = and_parts (ltb (length xs) 65536) ((repeated f (length xs)).fits xs) fits in
    record { few = omega (arith, ltb-true (length xs) 65536 p.0); fit = (and_parts (eqb (length xs) (length xs)) (fit_all f xs) p.1).1 }

of-counted : {A : Type 0} (f : Format A) (xs : List A) → length xs ≤ 65535 → fit_all f xs ≡ true → counts f xs ≡ true
of-counted f xs few fit =
    and_from (ltb (length xs) 65536) ((repeated f (length xs)).fits xs) (lt-ltb (length xs) 65536 (omega arith))
    (and_from (eqb (length xs) (length xs)) (fit_all f xs) (eq-eqb (length xs) (length xs) refl) fit)

members-parts : (pool : List Entry) (fs : List Member) (ms : List Method) → (members pool).fits (fs, ms) ≡ true
    → (counts (field pool) fs ≡ true) × (counts (method pool) ms ≡ true)
unfolding members
members-parts pool fs ms fits =
    let p = and_parts (counts (field pool) fs && counts (method pool) ms) true fits in
    and_parts (counts (field pool) fs) (counts (method pool) ms) p.0

of-members : (pool : List Entry) (fs : List Member) (ms : List Method) → counts (field pool) fs ≡ true → counts (method pool) ms ≡ true
    → (members pool).fits (fs, ms) ≡ true
unfolding members
of-members pool fs ms f m =
    and_from (counts (field pool) fs && counts (method pool) ms) true (and_from (counts (field pool) fs) (counts (method pool) ms) f m) refl

pub class-parts : (c : Class) → class.fits c ≡ true → Parts c
unfolding class preamble
class-parts c fits =
    let p = and_parts (pool.fits c.pool) ((class_slots c.pool).fits (c.this_class, c.super_class) && (members c.pool).fits
    (c.fields, c.methods)) fits in
    let q = and_parts ((class_slots c.pool).fits (c.this_class, c.super_class)) ((members c.pool).fits (c.fields, c.methods)) p.1 in
    let m = members-parts c.pool c.fields c.methods q.1 in
    let f = counted-parts (field c.pool) c.fields m.0 in
    let g = counted-parts (method c.pool) c.methods m.1 in
    record { pool_is = p.0; slots = q.0; few_fields = f.few; fields_fit = f.fit; few_methods = g.few; methods_fit = g.fit }

pub class-of-parts : (c : Class) → Parts c → class.fits c ≡ true
unfolding class preamble
class-of-parts c p =
    and_from (pool.fits c.pool) ((class_slots c.pool).fits (c.this_class, c.super_class) && (members c.pool).fits (c.fields, c.methods))
    p.pool_is
    (and_from ((class_slots c.pool).fits (c.this_class, c.super_class)) ((members c.pool).fits (c.fields, c.methods)) p.slots
    (of-members c.pool c.fields c.methods (of-counted (field c.pool) c.fields p.few_fields p.fields_fit)
    (of-counted (method c.pool) c.methods p.few_methods p.methods_fit)))

pub parts-stay : (c : Class) (new : List Entry) → Stays c.pool new → IsPool new → Parts c → Parts (record c { pool = new })
parts-stay c new stays sound p = record {
  pool_is = sound;
  slots = class_slots-stay c.pool new stays c.this_class c.super_class p.slots;
  few_fields = p.few_fields;
  fields_fit = all-fit (field c.pool) (field new) (field-stays c.pool new stays) c.fields p.fields_fit;
  few_methods = p.few_methods;
  methods_fit = all-fit (method c.pool) (method new) (method-stays c.pool new stays) c.methods p.methods_fit;
}

pub class-stays-sound : (c : Class) (new : List Entry) → Stays c.pool new → IsPool new → class.fits c ≡ true
    → class.fits (record c { pool = new }) ≡ true
class-stays-sound c new stays sound fits = class-of-parts (record c { pool = new }) (parts-stay c new stays sound (class-parts c fits))
