-- Classes with longer pools link where the classes before did.
use Rattle.std.proofs.Common.{◌≡◌, ℕ, zero, suc, ◌<◌, ◌≤◌, ◌⊎◌, inl, inr, Bool, true, false, ◌&&◌, ◌||◌, ltb, List, [], ◌∷◌, ◌++◌, length, map, Option, Some, None, refl, sym, ap, subst, ◌∙◌, arith, ⊎_elim}
use Rattle.std.specs.Prelude.{if◌then◌else◌, unwrap_or, slice_get, nat_lt, IsSome, is_some, codes, position}
use Rattle.std.specs.List.{list_any}
use Rattle.std.specs.Option.{option_or, option_and_then}
use Rattle.std.proofs.lemmas.Bool.{and_parts, false≢true}
use Rattle.std.proofs.lemmas.Option.{same_Some, none-some}
use Rattle.class_definition.specs.declared.entry.Entry.{Entry}
use Rattle.class_definition.specs.declared.entry.Entry.TheVariants.{Utf8, Integer, Long, LongRest, ClassName, Text, FieldRef, MethodRef, NameAnd}
use Rattle.class_definition.specs.PoolEntries.{class_entry_name, name_entry}
use Rattle.class_definition.specs.NameGrammar.{same_text, is_array_name, is_class_file_name, is_field_descriptor, is_method_descriptor}
use Rattle.class_definition.specs.PoolChecks.{entry_at, text_at, class_text_at, text_fault, text_fault_if_there, pair_fault, ref_fault}
use Rattle.class_definition.specs.PoolChecks as checks
use Rattle.constant_pool.specs.Slots.{IsAt}
use Rattle.class_definition.specs.declared.class.Class.{Class}
use Rattle.class_definition.specs.declared.link_fault.LinkFault.{LinkFault}
use Rattle.class_definition.specs.declared.member.Member.{Member}
use Rattle.class_definition.specs.Members.{field}
use Rattle.class_definition.specs.Linking.{descriptor_kind, field_kind, field_kinds, first_method}
use Rattle.class_definition.specs.MemberNames.{Signature, signature, slot_text, class_name_at, own_name, signature_of, signature_at, fields_of, methods_of, has_signature, has_signature_name, has_class, fields_named, methods_named, is_known, reference_to, same_reference, all_methods}
use Rattle.class_definition.specs.LinkFault.{no_class, no_field, no_method, too_many, no_run, at_class, is_twice, twice_fault, member_fault, is_known_class, named_entry_fault, fault_at_slot, slots_fault, references_fault, run_signature, has_run, run_fault, link_fault, has_equal, twice}
use Rattle.emit_classes.proofs.Stays.{name_of-stays}
use Rattle.emit_classes.proofs.Sound.{pool-parts, AllSound, index-at}
use Rattle.emit_classes.proofs.Classes.{class-parts, fit_all}
use Rattle.stackmap_laws.specs.Like.{IsLike, IsNew, IsLikeIn, AreLikeIn}
use Rattle.stackmap_laws.proofs.NameLaws.{text-there, some-is, AreLike, like-length, same-text, same-class, same-own, same-fields, same-methods, same-has, same-fields-named, same-methods-named, same-all-methods, field-named}

-- ---- what entries of a sound pool name

class-there : (entries : List Entry) → AllSound entries → (n k : ℕ) → option_and_then class_entry_name (entry_at entries n) ≡ Some k → IsSome (class_text_at entries n)
unfolding checks.pool_entry_fault
class-there entries sound n k is = by-entry (entry_at entries n) (sound n) is refl
  where
    by-entry : (o : Option Entry) → ((e : Entry) → o ≡ Some e → checks.pool_entry_fault entries e ≡ None) → option_and_then class_entry_name o ≡ Some k → entry_at entries n ≡ o → IsSome (class_text_at entries n)
    by-entry None s h at = absurd (none-some k h)
    by-entry (Some (ClassName m)) s h at =
        let t = text-there (λ cs. is_class_file_name cs || is_array_name cs) (text_at entries m) (s (ClassName m) refl) in
        some-is (class_text_at entries n) t.0 (ap (λ x. option_and_then (text_at entries) (option_and_then class_entry_name x)) at ∙ t.1)
    by-entry (Some (Utf8 cs)) s h at = absurd (none-some k h)
    by-entry (Some (Integer m)) s h at = absurd (none-some k h)
    by-entry (Some (Long m)) s h at = absurd (none-some k h)
    by-entry (Some LongRest) s h at = absurd (none-some k h)
    by-entry (Some (Text m)) s h at = absurd (none-some k h)
    by-entry (Some (FieldRef m l)) s h at = absurd (none-some k h)
    by-entry (Some (MethodRef m l)) s h at = absurd (none-some k h)
    by-entry (Some (NameAnd m l)) s h at = absurd (none-some k h)

pair-named : (o p : Option (List ℕ)) → pair_fault o p ≡ None → IsSome o × IsSome p
pair-named None p h = absurd cc
pair-named (Some x) None h = absurd cc
pair-named (Some x) (Some y) h = (refl, refl)

-- the slots of a name and a descriptor that both are texts
pub record IsPair (entries : List Entry) (n : ℕ) : Type 0 where
  pub slots : ℕ × ℕ
  pub is : option_and_then name_entry (entry_at entries n) ≡ Some slots
  pub named : IsSome (text_at entries slots.0)
  pub described : IsSome (text_at entries slots.1)

pair-there : (entries : List Entry) → AllSound entries → (n : ℕ) (x : ℕ × ℕ) → option_and_then name_entry (entry_at entries n) ≡ Some x → IsPair entries n
unfolding checks.pool_entry_fault
pair-there entries sound n x is = by-entry (entry_at entries n) (sound n) is refl
  where
    by-entry : (o : Option Entry) → ((e : Entry) → o ≡ Some e → checks.pool_entry_fault entries e ≡ None) → option_and_then name_entry o ≡ Some x → entry_at entries n ≡ o → IsPair entries n
    by-entry None s h at = absurd (none-some x h)
    by-entry (Some (NameAnd m l)) s h at =
        let p = pair-named (text_at entries m) (text_at entries l) (s (NameAnd m l) refl) in
        record { slots = (m, l); is = ap (option_and_then name_entry) at; named = p.0; described = p.1 }
    by-entry (Some (ClassName m)) s h at = absurd (none-some x h)
    by-entry (Some (Utf8 cs)) s h at = absurd (none-some x h)
    by-entry (Some (Integer m)) s h at = absurd (none-some x h)
    by-entry (Some (Long m)) s h at = absurd (none-some x h)
    by-entry (Some LongRest) s h at = absurd (none-some x h)
    by-entry (Some (Text m)) s h at = absurd (none-some x h)
    by-entry (Some (FieldRef m l)) s h at = absurd (none-some x h)
    by-entry (Some (MethodRef m l)) s h at = absurd (none-some x h)

ref-parts : (entries : List Entry) (test : List ℕ → Bool) (o : Option ℕ) (p : Option (ℕ × ℕ)) → ref_fault entries test o p ≡ None → ((k : ℕ) × (o ≡ Some k)) × ((x : ℕ × ℕ) × (p ≡ Some x))
ref-parts entries test None p h = absurd cc
ref-parts entries test (Some k) None h = absurd cc
ref-parts entries test (Some k) (Some x) h = ((k, refl), (x, refl))

-- ---- one class

module _ (c d : Class) (like : IsLike c d) where
  pub sound : AllSound c.pool
  sound = (pool-parts c.pool (class-parts c like.fits).pool_is).sound

  pub same-signature : (n : ℕ) → IsPair c.pool n → signature_at d n ≡ signature_at c n
  same-signature n p =
      let there : option_and_then name_entry (entry_at d.pool n) ≡ Some p.slots = name_of-stays c.pool d.pool like.stays n p.slots p.is in
      let a : slot_text d p.slots.0 ≡ slot_text c p.slots.0 = same-text c d like p.slots.0 p.named in
      let b : slot_text d p.slots.1 ≡ slot_text c p.slots.1 = same-text c d like p.slots.1 p.described in
      ap (signature_of d) there ∙ ((λ i. signature (a i) (b i)) ∙ sym (ap (signature_of c) p.is))

  -- the names that a reference has
  pub reference-same : (test : List ℕ → Bool) (class name : ℕ) → ref_fault c.pool test (option_and_then class_entry_name (entry_at c.pool class)) (option_and_then name_entry (entry_at c.pool name)) ≡ None → (class_name_at d class ≡ class_name_at c class) × (signature_at d name ≡ signature_at c name)
  reference-same test class name h =
      let p = ref-parts c.pool test (option_and_then class_entry_name (entry_at c.pool class)) (option_and_then name_entry (entry_at c.pool name)) h in
      (same-class c d like class (class-there c.pool sound class p.0.0 p.0.1), same-signature name (pair-there c.pool sound name p.1.0 p.1.1))

  pub text-named : (n : ℕ) → checks.pool_entry_fault c.pool (ClassName n) ≡ None → slot_text d n ≡ slot_text c n
  unfolding checks.pool_entry_fault
  text-named n h = let t = text-there (λ cs. is_class_file_name cs || is_array_name cs) (text_at c.pool n) h in same-text c d like n (some-is (text_at c.pool n) t.0 t.1)

  pub string-named : (n : ℕ) → checks.pool_entry_fault c.pool (Text n) ≡ None → IsSome (text_at c.pool n)
  unfolding checks.pool_entry_fault
  string-named n h = let t = text-there (λ _. true) (text_at c.pool n) h in some-is (text_at c.pool n) t.0 t.1

  pub field-ref-same : (class name : ℕ) → checks.pool_entry_fault c.pool (FieldRef class name) ≡ None → (class_name_at d class ≡ class_name_at c class) × (signature_at d name ≡ signature_at c name)
  unfolding checks.pool_entry_fault
  field-ref-same class name h = reference-same is_field_descriptor class name h

  pub method-ref-same : (class name : ℕ) → checks.pool_entry_fault c.pool (MethodRef class name) ≡ None → (class_name_at d class ≡ class_name_at c class) × (signature_at d name ≡ signature_at c name)
  unfolding checks.pool_entry_fault
  method-ref-same class name h = reference-same is_method_descriptor class name h

  module _ (cs ds : List Class) (all : AreLike cs ds) where
    entry-same : (e : Entry) → checks.pool_entry_fault c.pool e ≡ None → named_entry_fault ds d e ≡ named_entry_fault cs c e
    entry-same (ClassName n) h =
        let t = text-named n h in
        let name = slot_text c n in
        ap (λ b. if b then None else Some no_class) (ap (is_known_class ds) t ∙ ap (λ b. (is_array_name name || is_known name) || b) (same-has name cs ds all))
    entry-same (FieldRef class name) h =
        let r = field-ref-same class name h in
        ap (λ x. member_fault no_field (fields_named ds (class_name_at d class)) x) r.1
        ∙ (ap (λ x. member_fault no_field (fields_named ds x) (signature_at c name)) r.0
        ∙ ap (λ x. member_fault no_field x (signature_at c name)) (same-fields-named (class_name_at c class) cs ds all))
    entry-same (MethodRef class name) h =
        let r = method-ref-same class name h in
        ap (λ x. member_fault no_method (methods_named ds (class_name_at d class)) x) r.1
        ∙ (ap (λ x. member_fault no_method (methods_named ds x) (signature_at c name)) r.0
        ∙ ap (λ x. member_fault no_method x (signature_at c name)) (same-methods-named (class_name_at c class) cs ds all))
    entry-same (Utf8 cs') h = refl
    entry-same (Integer n) h = refl
    entry-same (Long n) h = refl
    entry-same LongRest h = refl
    entry-same (Text n) h = refl
    entry-same (NameAnd n m) h = refl

-- ---- all entries

slot-none : (number slot : ℕ) (o : Option ℕ) (others : Option LinkFault) → fault_at_slot number slot o others ≡ None → (o ≡ None) × (others ≡ None)
slot-none number slot None others h = (refl, h)
slot-none number slot (Some kind) others h = absurd cc

none-each : (cs : List Class) (c : Class) (number slot : ℕ) (es : List Entry) → slots_fault cs c number slot es ≡ None → (i : ℕ) (e : Entry) → slice_get es i ≡ Some e → named_entry_fault cs c e ≡ None
none-each cs c number slot [] h i e is = absurd (none-some e is)
none-each cs c number slot (x ∷ es) h zero e is =
    let p = slot-none number slot (named_entry_fault cs c x) (slots_fault cs c number (suc slot) es) h in
    ap (named_entry_fault cs c) (sym (same_Some x e is)) ∙ p.0
none-each cs c number slot (x ∷ es) h (suc i) e is =
    let p = slot-none number slot (named_entry_fault cs c x) (slots_fault cs c number (suc slot) es) h in
    none-each cs c number (suc slot) es p.1 i e is

none-all : (cs : List Class) (c : Class) (number slot : ℕ) (es : List Entry) → ((i : ℕ) (e : Entry) → slice_get es i ≡ Some e → named_entry_fault cs c e ≡ None) → slots_fault cs c number slot es ≡ None
none-all cs c number slot [] h = refl
none-all cs c number slot (x ∷ es) h = ap (λ o. fault_at_slot number slot o (slots_fault cs c number (suc slot) es)) (h 0 x refl) ∙ none-all cs c number (suc slot) es (λ i e is. h (suc i) e is)

pub are-like : (cs ds : List Class) → AreLikeIn cs ds → AreLike cs ds
are-like [] [] l = tt
are-like [] (d ∷ ds) l = absurd l
are-like (c ∷ cs) [] l = absurd l
are-like (c ∷ cs) (d ∷ ds) l = (l.0.like, are-like cs ds l.1)

new-none : (ds : List Class) (d : Class) (e : Entry) → IsNew d.pool e → named_entry_fault ds d e ≡ None
new-none ds d (Utf8 cs) h = refl
new-none ds d (ClassName n) h =
    let name : slot_text d n ≡ h.0 = ap (λ o. unwrap_or o []) h.1 in
    ap (λ b. if b then None else Some no_class) (ap (is_known_class ds) name ∙ ap (λ b. b || has_class ds h.0) h.2)
new-none ds d (Integer n) h = absurd h
new-none ds d (Long n) h = absurd h
new-none ds d LongRest h = absurd h
new-none ds d (Text n) h = absurd h
new-none ds d (FieldRef n m) h = absurd h
new-none ds d (MethodRef n m) h = absurd h
new-none ds d (NameAnd n m) h = absurd h

option-none : {A : Type 0} (o p : Option A) → option_or o p ≡ None → (o ≡ None) × (p ≡ None)
option-none None p h = (refl, h)
option-none (Some x) p h = absurd cc

module _ (cs ds : List Class) (all : AreLike cs ds) where
  slots-none : (c d : Class) → IsLikeIn c d → (number : ℕ) → slots_fault cs c number 1 c.pool ≡ None → slots_fault ds d number 1 d.pool ≡ None
  slots-none c d l number h = none-all ds d number 1 d.pool (λ i e is.
      ⊎_elim
      (λ old. entry-same c d l.like cs ds all e (sound c d l.like (suc i) e (index-at c.pool i e old)) ∙ none-each cs c number 1 c.pool h i e old)
      (λ new. new-none ds d e new)
      (l.entries i e is))

  references-none : (number : ℕ) (xs ys : List Class) → AreLikeIn xs ys → references_fault cs number xs ≡ None → references_fault ds number ys ≡ None
  references-none number [] [] l h = refl
  references-none number [] (y ∷ ys) l h = absurd l
  references-none number (x ∷ xs) [] l h = absurd l
  references-none number (x ∷ xs) (y ∷ ys) l h =
      let p = option-none (slots_fault cs x number 1 x.pool) (references_fault cs (suc number) xs) h in
      ap (λ o. option_or o (references_fault ds (suc number) ys)) (slots-none x y l.0 number p.0) ∙ references-none (suc number) xs ys l.1 p.1

twice-same : (before : List (List ℕ)) (c d : Class) → IsLike c d → is_twice before d ≡ is_twice before c
twice-same before c d l =
    λ i. ((list_any (same_text (same-own c d l i)) before || is_known (same-own c d l i)) || has_equal (same-fields c d l i)) || has_equal (same-methods c d l i)

all-twice : (before : List (List ℕ)) (number : ℕ) (cs ds : List Class) → AreLike cs ds → twice_fault before number ds ≡ twice_fault before number cs
all-twice before number [] [] l = refl
all-twice before number [] (d ∷ ds) l = absurd l
all-twice before number (c ∷ cs) [] l = absurd l
all-twice before number (c ∷ cs) (d ∷ ds) l =
    ap (λ name. if is_twice before d then at_class twice number else twice_fault (name ∷ before) (suc number) ds) (same-own c d l.0)
    ∙ (λ i. if twice-same before c d l.0 i then at_class twice number else all-twice (own_name c ∷ before) (suc number) cs ds l.1 i)

run-same : (cs ds : List Class) → AreLike cs ds → run_fault ds ≡ run_fault cs
run-same [] [] l = refl
run-same [] (d ∷ ds) l = absurd l
run-same (c ∷ cs) [] l = absurd l
run-same (c ∷ cs) (d ∷ ds) l = λ i. if has_signature (same-methods c d l.0 i) run_signature then None else at_class no_run 0

few-none : (b : Bool) (o : Option LinkFault) → (if b then at_class too_many 1024 else o) ≡ None → (b ≡ false) × (o ≡ None)
few-none true o h = absurd cc
few-none false o h = (refl, h)

pub links : (cs ds : List Class) → AreLikeIn cs ds → link_fault cs ≡ None → link_fault ds ≡ None
links cs ds l h =
    let all = are-like cs ds l in
    let p = few-none (nat_lt 1024 (length cs)) (option_or (twice_fault [] 0 cs) (option_or (references_fault cs 0 cs) (run_fault cs))) h in
    let q = option-none (twice_fault [] 0 cs) (option_or (references_fault cs 0 cs) (run_fault cs)) p.1 in
    let r = option-none (references_fault cs 0 cs) (run_fault cs) q.1 in
    let few : nat_lt 1024 (length ds) ≡ false = ap (nat_lt 1024) (like-length cs ds all) ∙ p.0 in
    ap (λ b. if b then at_class too_many 1024 else option_or (twice_fault [] 0 ds) (option_or (references_fault ds 0 ds) (run_fault ds))) few
    ∙ (ap (λ o. option_or o (option_or (references_fault ds 0 ds) (run_fault ds))) (all-twice [] 0 cs ds all ∙ q.0)
    ∙ (ap (λ o. option_or o (run_fault ds)) (references-none cs ds all 0 cs ds l r.0)
    ∙ (run-same cs ds all ∙ r.1)))

-- ---- fields, and the first method

kinds-by : (c d : Class) → IsLike c d → (fs : List Member) → fit_all (field c.pool) fs ≡ true → map (field_kind d) fs ≡ map (field_kind c) fs
kinds-by c d l [] h = refl
kinds-by c d l (f ∷ fs) h =
    let p = and_parts ((field c.pool).fits f) (fit_all (field c.pool) fs) h in
    let n = field-named c.pool f p.0 in
    let e : slot_text d f.desc ≡ slot_text c f.desc = same-text c d l f.desc (some-is (text_at c.pool f.desc) n.descriptor n.described) in
    λ i. descriptor_kind (e i) ∷ kinds-by c d l fs p.1 i

pub fields-same : (cs ds : List Class) → AreLike cs ds → field_kinds ds ≡ field_kinds cs
fields-same [] [] l = refl
fields-same [] (d ∷ ds) l = absurd l
fields-same (c ∷ cs) [] l = absurd l
fields-same (c ∷ cs) (d ∷ ds) l =
    let one : map (field_kind d) d.fields ≡ map (field_kind c) c.fields = ap (map (field_kind d)) l.0.fields ∙ kinds-by c d l.0 c.fields (class-parts c l.0.fits).fields_fit in
    λ i. one i ++ fields-same cs ds l.1 i

pub first-same : (cs ds : List Class) → AreLike cs ds → first_method ds ≡ first_method cs
first-same [] [] l = refl
first-same [] (d ∷ ds) l = absurd l
first-same (c ∷ cs) [] l = absurd l
first-same (c ∷ cs) (d ∷ ds) l =
    ap (λ rs. unwrap_or (position (same_reference (reference_to (own_name d) run_signature)) rs) 0) (same-all-methods (c ∷ cs) (d ∷ ds) l)
    ∙ ap (λ name. unwrap_or (position (same_reference (reference_to name run_signature)) (all_methods (c ∷ cs))) 0) (same-own c d l.0)
