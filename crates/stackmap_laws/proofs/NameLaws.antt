-- What names mean in classes with longer pools: the same.
use Rattle.std.proofs.Common.{◌≡◌, ℕ, zero, suc, ◌<◌, ◌≤◌, ◌⊎◌, inl, inr, Bool, true, false, ◌&&◌, ◌||◌, eqb, ltb, List, [], ◌∷◌, ◌++◌, length, map, Option, Some, None, refl, sym, ap, subst, ◌∙◌, arith, ⊎_elim}
use Rattle.std.specs.Prelude.{if◌then◌else◌, unwrap_or, slice_get, flat_map, IsSome, is_some}
use Rattle.std.specs.List.{list_any}
use Rattle.std.specs.Option.{option_or, option_and_then}
use Rattle.std.proofs.lemmas.Bool.{and_parts, false≢true}
use Rattle.std.proofs.lemmas.Option.{same_Some, none-some}
use Rattle.class_definition.specs.Format.{Format, is_sound}
use Rattle.class_definition.specs.declared.entry.Entry.{Entry}
use Rattle.class_definition.specs.declared.entry.Entry.TheVariants.{Utf8, Integer, Long, LongRest, ClassName, Text, FieldRef, MethodRef, NameAnd}
use Rattle.class_definition.specs.PoolEntries.{class_entry_name, name_entry}
use Rattle.class_definition.specs.NameGrammar.{same_text, is_array_name, is_class_file_name, is_member_name, is_field_descriptor, is_method_descriptor}
use Rattle.class_definition.specs.PoolChecks.{entry_at, text_at, class_text_at, text_fault, text_fault_if_there, pair_fault, ref_fault}
use Rattle.class_definition.specs.PoolChecks as checks
use Rattle.constant_pool.specs.Slots.{IsAt}
use Rattle.class_definition.specs.declared.class.Class.{Class}
use Rattle.class_definition.specs.declared.member.Member.{Member}
use Rattle.class_definition.specs.declared.method.Method.{Method}
use Rattle.class_definition.specs.Named.{fault_here, text_slot, this_slot, super_slot, is_own_descriptor, code_name_slot}
use Rattle.class_definition.specs.Members.{field, method, method_parts, code_attribute}
use Rattle.class_definition.specs.ClassFile.{class_slots, class}
use Rattle.class_definition.specs.MemberNames.{Signature, signature, slot_text, class_name_at, own_name, signature_of, signature_at, field_signature, method_signature, fields_of, methods_of, has_class, members_named, fields_named, methods_named, known_methods, is_named, is_known, Reference, reference_to, all_fields, all_methods}
use Rattle.class_definition.specs.declared.link_fault.LinkFault.{LinkFault}
use Rattle.emit_classes.proofs.Stays.{StaysSome, text-stays, class-stays}
use Rattle.stackmap_laws.specs.Like.{SameNames, IsLike}
use Rattle.emit_classes.proofs.Sound.{pool-parts, AllSound}
use Rattle.emit_classes.proofs.Classes.{class-parts, fit_all, named_code}

-- ---- what has to be there

pub sound-none : (o : Option ℕ) → is_sound (fault_here o) ≡ true → o ≡ None
sound-none None h = refl
sound-none (Some kind) h = absurd (false≢true h)

pub text-there : (test : List ℕ → Bool) (o : Option (List ℕ)) → text_fault test o ≡ None → (text : List ℕ) × (o ≡ Some text)
text-there test None h = absurd cc
text-there test (Some text) h = (text, refl)

pub slot-there : (entries : List Entry) (test : List ℕ → Bool) (n : ℕ) → (text_slot entries test).fits n ≡ true → (text : List ℕ) × (text_at entries n ≡ Some text)
slot-there entries test n h =
    let p = and_parts (ltb n 65536) (is_sound (fault_here (text_fault test (text_at entries n)))) h in
    text-there test (text_at entries n) (sound-none (text_fault test (text_at entries n)) p.1)

pub own-there : (c : Class) → class.fits c ≡ true → (name : List ℕ) × (class_text_at c.pool c.this_class ≡ Some name)
unfolding class_slots
own-there c fits =
    let h = (class-parts c fits).slots in
    let p = and_parts ((this_slot c.pool).fits c.this_class && (super_slot c.pool).fits c.super_class) true h in
    let q = and_parts ((this_slot c.pool).fits c.this_class) ((super_slot c.pool).fits c.super_class) p.0 in
    let r = and_parts (ltb c.this_class 65536) (is_sound (fault_here (text_fault is_class_file_name (class_text_at c.pool c.this_class)))) q.0 in
    text-there is_class_file_name (class_text_at c.pool c.this_class) (sound-none (text_fault is_class_file_name (class_text_at c.pool c.this_class)) r.1)

-- both slots of a member have a text
pub record AreNamed (entries : List Entry) (name desc : ℕ) : Type 0 where
  pub text : List ℕ
  pub named : text_at entries name ≡ Some text
  pub descriptor : List ℕ
  pub described : text_at entries desc ≡ Some descriptor

pub field-named : (entries : List Entry) (f : Member) → (field entries).fits f ≡ true → AreNamed entries f.name f.desc
unfolding field
field-named entries f fits =
    let p = and_parts ((text_slot entries is_member_name).fits f.name && (text_slot entries is_field_descriptor).fits f.desc) true fits in
    let q = and_parts ((text_slot entries is_member_name).fits f.name) ((text_slot entries is_field_descriptor).fits f.desc) p.0 in
    let n = slot-there entries is_member_name f.name q.0 in
    let d = slot-there entries is_field_descriptor f.desc q.1 in
    record { text = n.0; named = n.1; descriptor = d.0; described = d.1 }

pub method-named : (entries : List Entry) (m : Method) → (method entries).fits m ≡ true → AreNamed entries m.name m.desc
unfolding method
method-named entries m fits =
    let b = method_parts m in
    let p = and_parts ((text_slot entries is_member_name).fits m.name && (text_slot entries is_own_descriptor).fits m.desc) ((named_code entries).fits b.1) fits in
    let q = and_parts ((text_slot entries is_member_name).fits m.name) ((text_slot entries is_own_descriptor).fits m.desc) p.0 in
    let n = slot-there entries is_member_name m.name q.0 in
    let d = slot-there entries is_own_descriptor m.desc q.1 in
    record { text = n.0; named = n.1; descriptor = d.0; described = d.1 }

-- ---- one class

pub unwrapped : (o p : Option (List ℕ)) → StaysSome o p → IsSome o → unwrap_or p [] ≡ unwrap_or o []
unwrapped None p s h = absurd (false≢true h)
unwrapped (Some x) p s h = ap (λ y. unwrap_or y []) (s x refl)

pub some-is : {A : Type 0} (o : Option A) (x : A) → o ≡ Some x → IsSome o
some-is o x e = ap is_some e

module _ (c d : Class) (like : IsLike c d) where
  pub same-text : (n : ℕ) → IsSome (text_at c.pool n) → slot_text d n ≡ slot_text c n
  same-text n h = unwrapped (text_at c.pool n) (text_at d.pool n) (text-stays c.pool d.pool like.stays n) h

  pub same-class : (n : ℕ) → IsSome (class_text_at c.pool n) → class_name_at d n ≡ class_name_at c n
  same-class n h = unwrapped (class_text_at c.pool n) (class_text_at d.pool n) (class-stays c.pool d.pool like.stays n) h

  pub same-own : own_name d ≡ own_name c
  same-own = ap (class_name_at d) like.this ∙ (let o = own-there c like.fits in same-class c.this_class (some-is (class_text_at c.pool c.this_class) o.0 o.1))

  fields-by : (fs : List Member) → fit_all (field c.pool) fs ≡ true → map (field_signature d) fs ≡ map (field_signature c) fs
  fields-by [] h = refl
  fields-by (f ∷ fs) h =
      let p = and_parts ((field c.pool).fits f) (fit_all (field c.pool) fs) h in
      let n = field-named c.pool f p.0 in
      let a : slot_text d f.name ≡ slot_text c f.name = same-text f.name (some-is (text_at c.pool f.name) n.text n.named) in
      let b : slot_text d f.desc ≡ slot_text c f.desc = same-text f.desc (some-is (text_at c.pool f.desc) n.descriptor n.described) in
      λ i. signature (a i) (b i) ∷ fields-by fs p.1 i

  pub same-fields : fields_of d ≡ fields_of c
  same-fields = ap (map (field_signature d)) like.fields ∙ fields-by c.fields (class-parts c like.fits).fields_fit

  methods-by : (ms ns : List Method) → SameNames ms ns → fit_all (method c.pool) ms ≡ true → map (method_signature d) ns ≡ map (method_signature c) ms
  methods-by [] [] s h = refl
  methods-by [] (n ∷ ns) s h = absurd s
  methods-by (m ∷ ms) [] s h = absurd s
  methods-by (m ∷ ms) (n ∷ ns) s h =
      let p = and_parts ((method c.pool).fits m) (fit_all (method c.pool) ms) h in
      let k = method-named c.pool m p.0 in
      let a : slot_text d n.name ≡ slot_text c m.name = ap (slot_text d) s.0 ∙ same-text m.name (some-is (text_at c.pool m.name) k.text k.named) in
      let b : slot_text d n.desc ≡ slot_text c m.desc = ap (slot_text d) s.1 ∙ same-text m.desc (some-is (text_at c.pool m.desc) k.descriptor k.described) in
      λ i. signature (a i) (b i) ∷ methods-by ms ns s.2 p.1 i

  pub same-methods : methods_of d ≡ methods_of c
  same-methods = methods-by c.methods d.methods like.methods (class-parts c like.fits).methods_fit

-- ---- all classes

abbrev pub AreLike : List Class → List Class → Type 0
AreLike [] [] = Unit {0}
AreLike [] (d ∷ ds) = ⊥
AreLike (c ∷ cs) [] = ⊥
AreLike (c ∷ cs) (d ∷ ds) = IsLike c d × AreLike cs ds

pub like-length : (cs ds : List Class) → AreLike cs ds → length ds ≡ length cs
like-length [] [] l = refl
like-length [] (d ∷ ds) l = absurd l
like-length (c ∷ cs) [] l = absurd l
like-length (c ∷ cs) (d ∷ ds) l = ap suc (like-length cs ds l.1)

pub same-has : (name : List ℕ) (cs ds : List Class) → AreLike cs ds → has_class ds name ≡ has_class cs name
same-has name [] [] l = refl
same-has name [] (d ∷ ds) l = absurd l
same-has name (c ∷ cs) [] l = absurd l
same-has name (c ∷ cs) (d ∷ ds) l = λ i. same_text name (same-own c d l.0 i) || same-has name cs ds l.1 i

same-members : (members : Class → List Signature) → ((c d : Class) → IsLike c d → members d ≡ members c) → (others : List Signature) (name : List ℕ) (cs ds : List Class) → AreLike cs ds → members_named members others ds name ≡ members_named members others cs name
same-members members same others name [] [] l = refl
same-members members same others name [] (d ∷ ds) l = absurd l
same-members members same others name (c ∷ cs) [] l = absurd l
same-members members same others name (c ∷ cs) (d ∷ ds) l =
    λ i. if same_text name (same-own c d l.0 i) then same c d l.0 i else same-members members same others name cs ds l.1 i

pub same-fields-named : (name : List ℕ) (cs ds : List Class) → AreLike cs ds → fields_named ds name ≡ fields_named cs name
same-fields-named name cs ds l = same-members fields_of same-fields [] name cs ds l

pub same-methods-named : (name : List ℕ) (cs ds : List Class) → AreLike cs ds → methods_named ds name ≡ methods_named cs name
same-methods-named name cs ds l = same-members methods_of same-methods (known_methods name) name cs ds l

pub same-all-fields : (cs ds : List Class) → AreLike cs ds → all_fields ds ≡ all_fields cs
same-all-fields [] [] l = refl
same-all-fields [] (d ∷ ds) l = absurd l
same-all-fields (c ∷ cs) [] l = absurd l
same-all-fields (c ∷ cs) (d ∷ ds) l = λ i. map (reference_to (same-own c d l.0 i)) (same-fields c d l.0 i) ++ same-all-fields cs ds l.1 i

pub same-all-methods : (cs ds : List Class) → AreLike cs ds → all_methods ds ≡ all_methods cs
same-all-methods [] [] l = refl
same-all-methods [] (d ∷ ds) l = absurd l
same-all-methods (c ∷ cs) [] l = absurd l
same-all-methods (c ∷ cs) (d ∷ ds) l = λ i. map (reference_to (same-own c d l.0 i)) (same-methods c d l.0 i) ++ same-all-methods cs ds l.1 i
