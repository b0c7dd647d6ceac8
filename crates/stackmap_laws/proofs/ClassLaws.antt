-- Framed classes keep the rules of class files, and are like the classes before.
use Rattle.std.proofs.Common.{◌≡◌, ℕ, suc, ◌<◌, ◌≤◌, inl, inr, Bool, true, false, ◌&&◌, ltb, eqb, List, [], ◌∷◌, length, Option, Some, None, refl, sym, ap, subst, ◌∙◌, arith, ⊎_elim}
use Rattle.std.specs.Prelude.{if◌then◌else◌, slice_get, codes}
use Rattle.std.proofs.lemmas.Bool.{and_parts, and_from, ltb-true, false≢true}
use Rattle.std.proofs.lemmas.Slice.Eq.{bytes_eq-Decides}
use Rattle.class_definition.specs.Format.{is_sound}
use Rattle.class_definition.specs.declared.entry.Entry.{Entry}
use Rattle.class_definition.specs.declared.entry.Entry.TheVariants.{Utf8, Integer, Long, LongRest, ClassName, Text, FieldRef, MethodRef, NameAnd}
use Rattle.class_definition.specs.NameGrammar.{same_text, is_member_name}
use Rattle.class_definition.specs.PoolChecks.{text_at, text_fault}
use Rattle.class_definition.specs.declared.class.Class.{Class}
use Rattle.class_definition.specs.declared.code_fault.CodeFault.{CodeFault}
use Rattle.class_definition.specs.declared.method.Method.{Method}
use Rattle.class_definition.specs.Code.{code_fault}
use Rattle.class_definition.specs.Named.{fault_here, text_slot, is_own_descriptor, code_name_fault, code_name_slot}
use Rattle.class_definition.specs.Members.{method, method_parts, code_head, fault_of_code, code_attribute}
use Rattle.class_definition.specs.ClassFile.{class}
use Rattle.emit_classes.proofs.Stays.{Stays}
use Rattle.emit_classes.proofs.Classes.{class-parts, class-of-parts, class-stays-sound, fit_all, named_code}
use Rattle.emit_classes.proofs.Members.{method-fits}
use Rattle.stackmap_pool.specs.Longer.{framed_pool}
use Rattle.stackmap_pool.proofs.PoolLaws.{longer-stays, framed-longer, framed-sound, framed-known, IsKnown}
use Rattle.stackmap_laws.specs.Like.{SameNames, IsNew, IsLikeIn, AreLikeIn}
use Rattle.stackmap_laws.proofs.NameLaws.{sound-none}
use Rattle.class_definition.specs.MemberNames.{slot_text}
use Rattle.class_definition.specs.Linking.{gives_int}
use Rattle.stackmap_prune.specs.Code.{has_dead, is_listed}
use Rattle.stackmap_laws.specs.Framed.{IsPrunedOf, ArePruned, IsFramed, AreFramedFrom}
use Rattle.stackmap_laws.proofs.MethodLaws.{numbers-few, raised-few}

-- ---- what a method has

text-lawful : (test : List ℕ → Bool) (o : Option (List ℕ)) → text_fault test o ≡ None → (text : List ℕ) × (o ≡ Some text) × (test text ≡ true)
text-lawful test None h = absurd cc
text-lawful test (Some text) h = (text, refl, by-test (test text) refl h)
  where
    by-test : (b : Bool) → test text ≡ b → (if◌then◌else◌ {A = Option ℕ} b None (Some 6)) ≡ None → test text ≡ true
    by-test true e k = e
    by-test false e k = absurd cc

slot-lawful : (entries : List Entry) (test : List ℕ → Bool) (n : ℕ) → (text_slot entries test).fits n ≡ true → (n < 65536) × ((text : List ℕ) × (text_at entries n ≡ Some text) × (test text ≡ true))
slot-lawful entries test n h =
    let p = and_parts (ltb n 65536) (is_sound (fault_here (text_fault test (text_at entries n)))) h in
    (ltb-true n 65536 p.0, text-lawful test (text_at entries n) (sound-none (text_fault test (text_at entries n)) p.1))

code-lawful : (o : Option (List ℕ)) → code_name_fault o ≡ None → o ≡ Some (codes "Code")
code-lawful None h = absurd cc
code-lawful (Some name) h = by-test (same_text name (codes "Code")) refl h
  where
    by-test : (b : Bool) → same_text name (codes "Code") ≡ b → (if◌then◌else◌ {A = Option ℕ} b None (Some 8)) ≡ None → Some name ≡ Some (codes "Code")
    by-test true e k = ap (λ x. Some x) ((bytes_eq-Decides name (codes "Code")).0 e)
    by-test false e k = absurd cc

no-code-fault : (o : Option CodeFault) → is_sound (fault_of_code o) ≡ true → o ≡ None
no-code-fault None h = refl
no-code-fault (Some f) h = absurd (false≢true h)

pub record HasParts (entries : List Entry) (m : Method) : Type 0 where
  pub small_name : m.name < 65536
  pub name : List ℕ
  pub named : text_at entries m.name ≡ Some name
  pub lawful_name : is_member_name name ≡ true
  pub small_desc : m.desc < 65536
  pub descriptor : List ℕ
  pub described : text_at entries m.desc ≡ Some descriptor
  pub lawful_descriptor : is_own_descriptor descriptor ≡ true
  pub small_attr : m.attr < 65536
  pub attr_is : text_at entries m.attr ≡ Some (codes "Code")
  pub sound : code_fault m.code ≡ None

pub parts-of : (entries : List Entry) (m : Method) → (method entries).fits m ≡ true → HasParts entries m
unfolding method code_attribute
parts-of entries m fits =
    let b = method_parts m in
    let p = and_parts ((text_slot entries is_member_name).fits m.name && (text_slot entries is_own_descriptor).fits m.desc) ((named_code entries).fits b.1) fits in
    let q = and_parts ((text_slot entries is_member_name).fits m.name) ((text_slot entries is_own_descriptor).fits m.desc) p.0 in
    let r = and_parts ((code_name_slot entries).fits m.attr) (code_attribute.fits b.1.1) p.1 in
    let n = slot-lawful entries is_member_name m.name q.0 in
    let d = slot-lawful entries is_own_descriptor m.desc q.1 in
    let a = and_parts (ltb m.attr 65536) (is_sound (fault_here (code_name_fault (text_at entries m.attr)))) r.0 in
    let s = and_parts (code_head.fits b.1.1.0) _ r.1 in
    let t = and_parts _ true s.1 in
    let u = and_parts _ true t.0 in
    let v = and_parts (eqb (length m.code) (length m.code)) (is_sound (fault_of_code (code_fault m.code))) u.0 in
    record {
      small_name = n.0;
      name = n.1.0;
      named = n.1.1;
      lawful_name = n.1.2;
      small_desc = d.0;
      descriptor = d.1.0;
      described = d.1.1;
      lawful_descriptor = d.1.2;
      small_attr = ltb-true m.attr 65536 a.0;
      attr_is = code-lawful (text_at entries m.attr) (sound-none (code_name_fault (text_at entries m.attr)) a.1);
      sound = no-code-fault (code_fault m.code) v.1;
    }

-- ---- pruned methods

method-kept : (cs : List Class) (number : ℕ) (c : Class) (entries : List Entry) (m n : Method) → IsPrunedOf cs number c m n → (method entries).fits m ≡ true → (method entries).fits n ≡ true
method-kept cs number c entries m n p fits =
    let k = parts-of entries m fits in
    let few = numbers-few entries m fits in
    let i = p.is in
    method-fits entries n k.name k.descriptor (omega (arith, i.name, k.small_name)) (omega (arith, i.desc, k.small_desc)) (omega (arith, i.attr, k.small_attr))
    (omega (arith, i.stack, raised-few (gives_int (slot_text c m.desc)) (has_dead (is_listed p.reached) i.lines) m.stack (omega (arith, few.0))))
    (omega (arith, i.locals, few.1))
    (ap (text_at entries) i.name ∙ k.named) (ap (text_at entries) i.desc ∙ k.described) (ap (text_at entries) i.attr ∙ k.attr_is) k.lawful_name k.lawful_descriptor p.sound

methods-kept : (cs : List Class) (number : ℕ) (c : Class) (entries : List Entry) (ms ns : List Method) → ArePruned cs number c ms ns → fit_all (method entries) ms ≡ true → fit_all (method entries) ns ≡ true
methods-kept cs number c entries [] [] p fits = refl
methods-kept cs number c entries [] (n ∷ ns) p fits = absurd p
methods-kept cs number c entries (m ∷ ms) [] p fits = absurd p
methods-kept cs number c entries (m ∷ ms) (n ∷ ns) p fits =
    let q = and_parts ((method entries).fits m) (fit_all (method entries) ms) fits in
    and_from ((method entries).fits n) (fit_all (method entries) ns) (method-kept cs number c entries m n p.0 q.0) (methods-kept cs number c entries ms ns p.1 q.1)

pruned-length : (cs : List Class) (number : ℕ) (c : Class) (ms ns : List Method) → ArePruned cs number c ms ns → length ns ≡ length ms
pruned-length cs number c [] [] p = refl
pruned-length cs number c [] (n ∷ ns) p = absurd p
pruned-length cs number c (m ∷ ms) [] p = absurd p
pruned-length cs number c (m ∷ ms) (n ∷ ns) p = ap suc (pruned-length cs number c ms ns p.1)

same-names : (cs : List Class) (number : ℕ) (c : Class) (ms ns : List Method) → ArePruned cs number c ms ns → SameNames ms ns
same-names cs number c [] [] p = tt
same-names cs number c [] (n ∷ ns) p = absurd p
same-names cs number c (m ∷ ms) [] p = absurd p
same-names cs number c (m ∷ ms) (n ∷ ns) p = (p.0.is.name, p.0.is.desc, same-names cs number c ms ns p.1)

-- ---- a class

known-new : (entries : List Entry) (e : Entry) → IsKnown entries e → IsNew entries e
known-new entries (Utf8 cs) k = tt
known-new entries (ClassName n) k = k
known-new entries (Integer n) k = k
known-new entries (Long n) k = k
known-new entries LongRest k = k
known-new entries (Text n) k = k
known-new entries (FieldRef n m) k = k
known-new entries (MethodRef n m) k = k
known-new entries (NameAnd n m) k = k

module _ (cs : List Class) (number : ℕ) (c d : Class) (fits : class.fits c ≡ true) (f : IsFramed cs number c d) where
  stays : Stays c.pool d.pool
  stays = subst (Stays c.pool) (sym f.pool) (longer-stays c.pool (framed_pool c.pool) (framed-longer c.pool))

  few : length (framed_pool c.pool) ≤ 65534
  few = omega (arith, f.few, ap length f.pool)

  abbrev longer : Class
  longer = record { pool = framed_pool c.pool; this_class = c.this_class; super_class = c.super_class; fields = c.fields; methods = c.methods }

  longer-fits : class.fits longer ≡ true
  longer-fits = class-stays-sound c (framed_pool c.pool) (longer-stays c.pool (framed_pool c.pool) (framed-longer c.pool)) (framed-sound c.pool (class-parts c fits).pool_is few) fits

  abbrev framed : Class
  framed = record { pool = framed_pool c.pool; this_class = c.this_class; super_class = c.super_class; fields = c.fields; methods = d.methods }

  framed-fits : class.fits framed ≡ true
  framed-fits =
      let p = class-parts longer longer-fits in
      class-of-parts framed (record {
        pool_is = p.pool_is;
        slots = p.slots;
        few_fields = p.few_fields;
        fields_fit = p.fields_fit;
        few_methods = omega (arith, p.few_methods, pruned-length cs number c c.methods d.methods f.methods);
        methods_fit = methods-kept cs number c (framed_pool c.pool) c.methods d.methods f.methods p.methods_fit;
      })

  pub class-kept : class.fits d ≡ true
  class-kept = subst (λ (x : Class). class.fits x ≡ true) (λ i. record { pool = sym f.pool i; this_class = sym f.this i; super_class = sym f.super i; fields = sym f.fields i; methods = d.methods }) framed-fits

  pub like-framed : IsLikeIn c d
  like-framed = record {
    like = record { fits = fits; stays = stays; this = f.this; fields = f.fields; methods = same-names cs number c c.methods d.methods f.methods };
    entries = λ i e is.
        ⊎_elim
        (λ old. inl old)
        (λ k. inr (known-new d.pool e (subst (λ p. IsKnown p e) (sym f.pool) k)))
        (framed-known c.pool i e (ap (λ p. slice_get p i) (sym f.pool) ∙ is));
  }

-- ---- all classes

abbrev pub AllFit : List Class → Type 0
AllFit [] = Unit {0}
AllFit (c ∷ cs) = (class.fits c ≡ true) × AllFit cs

pub all-like : (cs : List Class) (number : ℕ) (xs ys : List Class) → AllFit xs → AreFramedFrom cs number xs ys → AreLikeIn xs ys
all-like cs number [] [] k f = tt
all-like cs number [] (y ∷ ys) k f = absurd f
all-like cs number (x ∷ xs) [] k f = absurd f
all-like cs number (x ∷ xs) (y ∷ ys) k f = (like-framed cs number x y k.0 f.0, all-like cs (suc number) xs ys k.1 f.1)

pub all-kept : (cs : List Class) (number : ℕ) (xs ys : List Class) → AllFit xs → AreFramedFrom cs number xs ys → AllFit ys
all-kept cs number [] [] k f = tt
all-kept cs number [] (y ∷ ys) k f = absurd f
all-kept cs number (x ∷ xs) [] k f = absurd f
all-kept cs number (x ∷ xs) (y ∷ ys) k f = (class-kept cs number x y k.0 f.0, all-kept cs (suc number) xs ys k.1 f.1)
