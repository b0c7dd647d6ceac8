-- What a pool names while it grows.
use Rattle.std.proofs.Common.{◌≡◌, ℕ, zero, suc, ◌||◌, Bool, true, List, [], ◌∷◌, ◌++◌, Option, Some, None, inl, inr, refl, sym, ap, subst, ◌∙◌, append_assoc}
use Rattle.std.specs.Prelude.{slice_get, unwrap_or, flat_map}
use Rattle.std.specs.List.{list_any, list_all}
use Rattle.std.specs.Option.{option_and_then}
use Rattle.std.proofs.lemmas.Bool.{and_parts, and_from, or_left, or_right}
use Rattle.std.proofs.lemmas.Option.{same_Some}
use Rattle.std.proofs.lemmas.List.{append-nil}
use Rattle.std.proofs.lemmas.List.Folds.{list_any-append}
use Rattle.std.proofs.lemmas.Grind.{flat_map-append}
use Rattle.std.specs.Cmp.Lexicographic as texts
use Rattle.class_definition.specs.declared.entry.Entry.{Entry}
use Rattle.class_definition.specs.declared.entry.Entry.TheVariants.{Utf8, Integer, Long, LongRest, ClassName, Text, FieldRef, MethodRef}
use Rattle.class_definition.specs.declared.entry.Entry.TheVariants.{NameAnd}
use Rattle.class_definition.specs.NameGrammar.{same_text, is_class_file_name, is_array_name, is_field_descriptor, is_method_descriptor}
use Rattle.class_definition.specs.PoolEntries.{class_entry_name, name_entry}
use Rattle.class_definition.specs.PoolChecks.{entry_at, text_at, class_text_at, text_fault, pair_fault, ref_fault, pool_entry_fault}
use Rattle.constant_pool.specs.Slots.{IsAt}
use Rattle.class_definition.specs.MemberNames.{signature, Reference, reference_to, same_signature, same_reference}
use Rattle.class_names.proofs.NumberLemmas.{same_text-refl}
use Rattle.emit_steps.specs.declared.step.Step.{Step}
use Rattle.emit_assembly.specs.Assembling.{Extends, Adds, is_constant_of}
use Rattle.emit_classes.specs.declared.member_kind.MemberKind.{MemberKind}
use Rattle.emit_classes.specs.declared.member_kind.MemberKind.TheVariants.{Field, Method}
use Rattle.emit_classes.specs.Sound.{IsPool}
use Rattle.emit_classes.specs.Lawful.{member_entry}
use Rattle.emit_classes.specs.Named.{IsTextAt, IsClassAt, IsPairAt}
use Rattle.emit_classes.specs.Mentioned.{Mention, OfClass, OfMember, member_mention, text_in, class_in, signature_of, signature_in, mentions_in, mentioned, once, same_kind, same_mention, Mentions}
use Rattle.emit_classes.proofs.Stays.{StaysSome, Stays, text-stays, class-stays, name_of-stays, pair-stays}
use Rattle.emit_classes.proofs.Sound.{AllSound, pool-parts, index-at, at-index, get-front}
use Rattle.emit_classes.proofs.Joined.{Joined}
use Rattle.emit_classes.proofs.Growing.{stays-behind}
use Rattle.emit_classes.proofs.Made.{text-later, class-later}
use Rattle.emit_classes.proofs.Once.{once-front, once-any, once-again, all-among}

-- ---- equal mentions

kind-exact : (k l : MemberKind) → same_kind k l ≡ true → k ≡ l
kind-exact Field Field is = refl
kind-exact Field Method is = absurd cc
kind-exact Method Field is = absurd cc
kind-exact Method Method is = refl

kind-itself : (k : MemberKind) → same_kind k k ≡ true
kind-itself Field = refl
kind-itself Method = refl

text-exact : (t u : List ℕ) → same_text t u ≡ true → t ≡ u
text-exact t u is = texts.same_text t u (sym is)

reference-exact : (r s : Reference) → same_reference r s ≡ true → r ≡ s
reference-exact r s is =
    let p = and_parts (same_text r.class_name s.class_name) (same_signature r.signature s.signature) is in
    let q = and_parts (same_text r.signature.name s.signature.name) (same_text r.signature.descriptor s.signature.descriptor) p.1 in
    let owner = text-exact r.class_name s.class_name p.0 in
    let name = text-exact r.signature.name s.signature.name q.0 in
    let descriptor = text-exact r.signature.descriptor s.signature.descriptor q.1 in
    λ i. reference_to (owner i) (signature (name i) (descriptor i))

reference-itself : (r : Reference) → same_reference r r ≡ true
reference-itself r =
    and_from (same_text r.class_name r.class_name) (same_signature r.signature r.signature) (same_text-refl r.class_name)
    (and_from (same_text r.signature.name r.signature.name) (same_text r.signature.descriptor r.signature.descriptor)
    (same_text-refl r.signature.name) (same_text-refl r.signature.descriptor))

pub mention-exact : (x y : Mention) → same_mention x y ≡ true → x ≡ y
mention-exact (OfClass n) (OfClass m) is = ap OfClass (text-exact n m is)
mention-exact (OfClass n) (OfMember l s) is = absurd cc
mention-exact (OfMember k r) (OfClass m) is = absurd cc
mention-exact (OfMember k r) (OfMember l s) is =
    let p = and_parts (same_kind k l) (same_reference r s) is in
    let kind = kind-exact k l p.0 in
    let member = reference-exact r s p.1 in
    λ i. OfMember (kind i) (member i)

pub mention-itself : (x : Mention) → same_mention x x ≡ true
mention-itself (OfClass n) = same_text-refl n
mention-itself (OfMember k r) = and_from (same_kind k k) (same_reference r r) (kind-itself k) (reference-itself r)

-- ---- one list of mentions for another

-- more behind what is named
pub mentions-further : (mid new : List Entry) (xs ys : List Mention) → Mentions mid xs → Mentions new (mentioned mid ++ ys)
    → Mentions new (xs ++ ys)
mentions-further mid new xs ys first second =
    record { are = second.are ∙ once-front same_mention (mentioned mid) xs ys first.are }

-- and more behind that
pub mentions-after : (old mid new : List Entry) (xs ys : List Mention) → Mentions mid (mentioned old ++ xs)
    → Mentions new (mentioned mid ++ ys) → Mentions new (mentioned old ++ (xs ++ ys))
mentions-after old mid new xs ys first second =
    subst (Mentions new) (append_assoc (mentioned old) xs ys) (mentions-further mid new (mentioned old ++ xs) ys first second)

-- nothing more
pub mentions-still : (mid new : List Entry) (xs : List Mention) → Mentions mid xs → Mentions new (mentioned mid) → Mentions new xs
mentions-still mid new xs first second = record { are = second.are ∙ first.are }

pub mentions-itself : (pool : List Entry) → Mentions pool (mentioned pool)
mentions-itself pool = record { are = refl }

-- a test of what is named
pub mentions-any : (pool : List Entry) (names : List Mention) → Mentions pool names → (test : Mention → Bool)
    → list_any test (mentioned pool) ≡ list_any test names
mentions-any pool names is test =
    sym (once-any same_mention mention-exact test (mentioned pool)) ∙ ap (list_any test) is.are ∙ once-any same_mention mention-exact test names

-- ---- what sound entries name is there

abbrev pub IsThere : {A : Type 0} → Option A → Type 0
IsThere {A} o = (x : A) × (o ≡ Some x)

text-there : (test : List ℕ → Bool) (o : Option (List ℕ)) → text_fault test o ≡ None → IsThere o
text-there test None none = absurd cc
text-there test (Some t) none = (t, refl)

pair-there : (n d : Option (List ℕ)) → pair_fault n d ≡ None → IsThere n × IsThere d
pair-there None d none = absurd cc
pair-there (Some x) None none = absurd cc
pair-there (Some x) (Some y) none = ((x, refl), (y, refl))

reference-there : (pool : List Entry) (test : List ℕ → Bool) (c : Option ℕ) (n : Option (ℕ × ℕ)) → ref_fault pool test c n ≡ None
    → IsThere c × IsThere n
reference-there pool test None n none = absurd cc
reference-there pool test (Some x) None none = absurd cc
reference-there pool test (Some x) (Some y) none = ((x, refl), (y, refl))

found-in : {A B : Type 0} (f : A → Option B) (o : Option A) (y : B) → option_and_then f o ≡ Some y → (x : A) × (o ≡ Some x) × (f x ≡ Some y)
found-in f None y is = absurd cc
found-in f (Some x) y is = (x, refl, is)

same-text-in : (o p : Option (List ℕ)) → StaysSome o p → IsThere o → unwrap_or o [] ≡ unwrap_or p []
same-text-in o p stays there =
    let e = there.1 in
    let f = stays there.0 e in
    rw (e, f) refl

pub class-named : (pool : List Entry) (e : Entry) (x : ℕ) → pool_entry_fault pool e ≡ None → class_entry_name e ≡ Some x → IsThere (text_at pool x)
unfolding pool_entry_fault
class-named pool (Utf8 cs) x none is = absurd cc
class-named pool (Integer n) x none is = absurd cc
class-named pool (Long n) x none is = absurd cc
class-named pool LongRest x none is = absurd cc
class-named pool (ClassName n) x none is =
    subst (λ (m : ℕ). IsThere (text_at pool m)) (same_Some n x is) (text-there (λ cs. is_class_file_name cs || is_array_name cs) (text_at pool n) none)
class-named pool (Text n) x none is = absurd cc
class-named pool (FieldRef n m) x none is = absurd cc
class-named pool (MethodRef n m) x none is = absurd cc
class-named pool (NameAnd n m) x none is = absurd cc

pair-named : (pool : List Entry) (e : Entry) (x : ℕ × ℕ) → pool_entry_fault pool e ≡ None → name_entry e ≡ Some x
    → IsThere (text_at pool x.0) × IsThere (text_at pool x.1)
unfolding pool_entry_fault
pair-named pool (Utf8 cs) x none is = absurd cc
pair-named pool (Integer n) x none is = absurd cc
pair-named pool (Long n) x none is = absurd cc
pair-named pool LongRest x none is = absurd cc
pair-named pool (ClassName n) x none is = absurd cc
pair-named pool (Text n) x none is = absurd cc
pair-named pool (FieldRef n m) x none is = absurd cc
pair-named pool (MethodRef n m) x none is = absurd cc
pair-named pool (NameAnd n m) x none is =
    subst (λ (y : ℕ × ℕ). IsThere (text_at pool y.0) × IsThere (text_at pool y.1)) (same_Some (n, m) x is)
    (pair-there (text_at pool n) (text_at pool m) none)

-- ---- what they name stays what it is

module _ (old new : List Entry) (stays : Stays old new) (sound : AllSound old) where
  text_in-stays : (slot : ℕ) → IsThere (text_at old slot) → text_in old slot ≡ text_in new slot
  text_in-stays slot there = same-text-in (text_at old slot) (text_at new slot) (text-stays old new stays slot) there

  class_in-stays : (slot x : ℕ) → option_and_then class_entry_name (entry_at old slot) ≡ Some x → class_in old slot ≡ class_in new slot
  class_in-stays slot x is =
      let e = found-in class_entry_name (entry_at old slot) x is in
      let there = class-named old e.0 x (sound slot e.0 e.1) e.2 in
      same-text-in (class_text_at old slot) (class_text_at new slot) (class-stays old new stays slot)
      (there.0, ap (option_and_then (text_at old)) is ∙ there.1)

  signature_of-stays : (o p : Option (ℕ × ℕ)) (x : ℕ × ℕ) → o ≡ Some x → p ≡ Some x → IsThere (text_at old x.0) × IsThere (text_at old x.1)
      → signature_of old o ≡ signature_of new p
  signature_of-stays o p x first second there =
      let name = text_in-stays x.0 there.0 in
      let descriptor = text_in-stays x.1 there.1 in
      ap (signature_of old) first ∙ (λ i. signature (name i) (descriptor i)) ∙ sym (ap (signature_of new) second)

  signature_in-stays : (slot : ℕ) (x : ℕ × ℕ) → option_and_then name_entry (entry_at old slot) ≡ Some x → signature_in old slot ≡ signature_in new slot
  signature_in-stays slot x is =
      let e = found-in name_entry (entry_at old slot) x is in
      signature_of-stays (option_and_then name_entry (entry_at old slot)) (option_and_then name_entry (entry_at new slot)) x is
      (name_of-stays old new stays slot x is) (pair-named old e.0 x (sound slot e.0 e.1) e.2)

  reference-stays : (test : List ℕ → Bool) (class name : ℕ)
      → ref_fault old test (option_and_then class_entry_name (entry_at old class)) (option_and_then name_entry (entry_at old name)) ≡ None
      → reference_to (class_in old class) (signature_in old name) ≡ reference_to (class_in new class) (signature_in new name)
  reference-stays test class name none =
      let there = reference-there old test (option_and_then class_entry_name (entry_at old class)) (option_and_then name_entry (entry_at old name)) none in
      let owner = class_in-stays class there.0.0 there.0.1 in
      let member = signature_in-stays name there.1.0 there.1.1 in
      λ i. reference_to (owner i) (member i)

  mentions_in-stay : (e : Entry) → pool_entry_fault old e ≡ None → mentions_in old e ≡ mentions_in new e
  unfolding pool_entry_fault
  mentions_in-stay (Utf8 cs) none = refl
  mentions_in-stay (Integer n) none = refl
  mentions_in-stay (Long n) none = refl
  mentions_in-stay LongRest none = refl
  mentions_in-stay (ClassName n) none =
      ap (λ (t : List ℕ). OfClass t ∷ []) (text_in-stays n (text-there (λ cs. is_class_file_name cs || is_array_name cs) (text_at old n) none))
  mentions_in-stay (Text n) none = refl
  mentions_in-stay (FieldRef n m) none = ap (λ r. OfMember Field r ∷ []) (reference-stays is_field_descriptor n m none)
  mentions_in-stay (MethodRef n m) none = ap (λ r. OfMember Method r ∷ []) (reference-stays is_method_descriptor n m none)
  mentions_in-stay (NameAnd n m) none = refl

alike : (f g : Entry → List Mention) (es : List Entry) → ((i : ℕ) (e : Entry) → slice_get es i ≡ Some e → f e ≡ g e)
    → flat_map f es ≡ flat_map g es
alike f g [] each = refl
alike f g (e ∷ es) each =
    let here = each zero e refl in
    let later = alike f g es (λ i x at. each (suc i) x at) in
    λ i. here i ++ later i

-- ---- entries behind a pool of a class file

pub mentioned-behind : (old behind : List Entry) → IsPool old
    → mentioned (old ++ behind) ≡ mentioned old ++ flat_map (mentions_in (old ++ behind)) behind
mentioned-behind old behind was =
    let sound = (pool-parts old was).sound in
    let same = alike (mentions_in old) (mentions_in (old ++ behind)) old
    (λ i e at. mentions_in-stay old (old ++ behind) (get-front old behind) sound e (sound (suc i) e (index-at old i e at))) in
    flat_map-append (mentions_in (old ++ behind)) old behind
    ∙ ap (λ names. names ++ flat_map (mentions_in (old ++ behind)) behind) (sym same)

-- what an entry names is named by all
among : (f : Entry → List Mention) (es : List Entry) (i : ℕ) (e : Entry) (test : Mention → Bool) → slice_get es i ≡ Some e
    → list_any test (f e) ≡ true → list_any test (flat_map f es) ≡ true
among f [] i e test at is = absurd cc
among f (x ∷ es) zero e test at is =
    list_any-append test (f x) (flat_map f es)
    ∙ or_left (list_any test (f x)) (list_any test (flat_map f es)) (ap (λ y. list_any test (f y)) (same_Some x e at) ∙ is)
among f (x ∷ es) (suc i) e test at is =
    list_any-append test (f x) (flat_map f es)
    ∙ or_right (list_any test (f x)) (list_any test (flat_map f es)) (among f es i e test at is)

-- an entry that is there already
named-again : (pool : List Entry) (slot : ℕ) (e : Entry) → IsAt pool slot e → Mentions pool (mentioned pool ++ mentions_in pool e)
named-again pool slot e there = record {
  are = sym (once-again same_mention mention-exact (mentioned pool) (mentions_in pool e)
      (all-among same_mention mention-itself (mentions_in pool e) (mentioned pool)
      (λ y is. among (mentions_in pool) pool _ e (same_mention y) (at-index pool slot e there) is)));
}

-- an entry more
named-more : (old : List Entry) (e : Entry) → IsPool old → Mentions (old ++ e ∷ []) (mentioned old ++ mentions_in (old ++ e ∷ []) e)
named-more old e was = record {
  are = ap (once same_mention)
      (mentioned-behind old (e ∷ []) was ∙ ap (λ names. mentioned old ++ names) (append-nil (mentions_in (old ++ e ∷ []) e)));
}

pub mentions-joined : (old new : List Entry) (slot : ℕ) (e : Entry) → IsPool old → Joined old new slot e
    → Mentions new (mentioned old ++ mentions_in new e)
mentions-joined old new slot e was j =
    let P : List Entry → Type 0 = λ pool. Mentions pool (mentioned old ++ mentions_in pool e) in
    elim j.grown [
      | inl same ↦ subst P (sym same) (named-again old slot e (subst (λ pool. IsAt pool slot e) same j.there))
      | inr grown ↦ subst P (sym grown) (named-more old e was)
    ]

-- ---- constants of code

constant-mentions : (code : List Step) (pool : List Entry) (e : Entry) → is_constant_of code e ≡ true → mentions_in pool e ≡ []
constant-mentions code pool (Utf8 cs) is = refl
constant-mentions code pool (Integer n) is = refl
constant-mentions code pool (Long n) is = refl
constant-mentions code pool LongRest is = refl
constant-mentions code pool (ClassName n) is = absurd cc
constant-mentions code pool (Text n) is = refl
constant-mentions code pool (FieldRef n m) is = absurd cc
constant-mentions code pool (MethodRef n m) is = absurd cc
constant-mentions code pool (NameAnd n m) is = refl

constants-mention : (code : List Step) (pool es : List Entry) → list_all (is_constant_of code) es ≡ true → flat_map (mentions_in pool) es ≡ []
constants-mention code pool [] all = refl
constants-mention code pool (e ∷ es) all =
    let p = and_parts (is_constant_of code e) (list_all (is_constant_of code) es) all in
    ap (λ names. names ++ flat_map (mentions_in pool) es) (constant-mentions code pool e p.0) ∙ constants-mention code pool es p.1

pub mentions-coded : (code : List Step) (old new : List Entry) → IsPool old → Adds code old new → Mentions new (mentioned old)
mentions-coded code old new was a =
    let pool = old ++ a.behind in
    let P : List Entry → Type 0 = λ p. Mentions p (mentioned old) in
    subst P (sym a.is) (record {
      are = ap (once same_mention)
          (mentioned-behind old a.behind was
          ∙ ap (λ names. mentioned old ++ names) (constants-mention code pool a.behind a.constants)
          ∙ append-nil (mentioned old));
    })

-- ---- what the functions of pools add

-- nothing more is what was named
pub mentions-nothing : (pool : List Entry) (names : List Mention) → Mentions pool (names ++ []) → Mentions pool names
mentions-nothing pool names is = subst (Mentions pool) (append-nil names) is

text_in-there : (pool : List Entry) (slot : ℕ) (text : List ℕ) → IsTextAt pool slot text → text_in pool slot ≡ text
text_in-there pool slot text is = ap (λ (o : Option (List ℕ)). unwrap_or o []) is

class_in-there : (pool : List Entry) (slot : ℕ) (name : List ℕ) → IsClassAt pool slot name → class_in pool slot ≡ name
class_in-there pool slot name is = ap (λ (o : Option (List ℕ)). unwrap_or o []) is

signature_in-there : (pool : List Entry) (slot : ℕ) (name descriptor : List ℕ) → IsPairAt pool slot name descriptor
    → signature_in pool slot ≡ signature name descriptor
signature_in-there pool slot name descriptor p =
    let first = text_in-there pool p.name_slot name p.name_is in
    let second = text_in-there pool p.descriptor_slot descriptor p.descriptor_is in
    ap (λ (o : Option Entry). signature_of pool (option_and_then name_entry o)) p.there ∙ (λ i. signature (first i) (second i))

pub class-mentioned : (old mid new : List Entry) (text : ℕ) (name : List ℕ) → Mentions mid (mentioned old) → Extends mid new
    → IsTextAt mid text name → Mentions new (mentioned mid ++ mentions_in new (ClassName text))
    → Mentions new (mentioned old ++ OfClass name ∷ [])
class-mentioned old mid new text name first x named second =
    mentions-further mid new (mentioned old) (OfClass name ∷ []) first
    (subst (λ (t : List ℕ). Mentions new (mentioned mid ++ OfClass t ∷ []))
    (text_in-there new text name (text-later mid new text name x named)) second)

pub pair-mentioned : (old first second new : List Entry) (name descriptor : ℕ) → Mentions first (mentioned old)
    → Mentions second (mentioned first) → Mentions new (mentioned second ++ mentions_in new (NameAnd name descriptor))
    → Mentions new (mentioned old)
pair-mentioned old first second new name descriptor x y z =
    mentions-still second new (mentioned old) (mentions-still first second (mentioned old) x y) (mentions-nothing new (mentioned second) z)

module _ (old mid new : List Entry) (class pair : ℕ) (owner name descriptor : List ℕ) (first : Mentions mid (mentioned old))
    (x : Extends old mid) (y : Extends mid new) (of : IsClassAt old class owner) (p : IsPairAt mid pair name descriptor) where
  member-same : reference_to (class_in new class) (signature_in new pair) ≡ reference_to owner (signature name descriptor)
  member-same =
      let there = class-later mid new class owner y (class-later old mid class owner x of) in
      let one = class_in-there new class owner there in
      let other = signature_in-there new pair name descriptor (pair-stays mid new (stays-behind mid new y) pair name descriptor p) in
      λ i. reference_to (one i) (other i)

  pub member-mentioned : (kind : MemberKind) (e : Entry) → e ≡ member_entry kind class pair
      → Mentions new (mentioned mid ++ mentions_in new e) → Mentions new (mentioned old ++ member_mention kind owner name descriptor ∷ [])
  member-mentioned Field e is second =
      let put : Mentions new (mentioned mid ++ mentions_in new (FieldRef class pair)) =
      subst (λ (f : Entry). Mentions new (mentioned mid ++ mentions_in new f)) is second in
      mentions-further mid new (mentioned old) (member_mention Field owner name descriptor ∷ []) first
      (subst (λ (r : Reference). Mentions new (mentioned mid ++ OfMember Field r ∷ [])) member-same put)
  member-mentioned Method e is second =
      let put : Mentions new (mentioned mid ++ mentions_in new (MethodRef class pair)) =
      subst (λ (f : Entry). Mentions new (mentioned mid ++ mentions_in new f)) is second in
      mentions-further mid new (mentioned old) (member_mention Method owner name descriptor ∷ []) first
      (subst (λ (r : Reference). Mentions new (mentioned mid ++ OfMember Method r ∷ [])) member-same put)

pub begun-mentions : (first second third new : List Entry) (name object : List ℕ) → first ≡ []
    → Mentions second (mentioned first ++ OfClass name ∷ []) → Mentions third (mentioned second ++ OfClass object ∷ [])
    → Mentions new (mentioned third) → Mentions new (OfClass name ∷ OfClass object ∷ [])
begun-mentions first second third new name object none x y z =
    let begun : Mentions second (OfClass name ∷ []) =
    subst (λ (p : List Entry). Mentions second (mentioned p ++ OfClass name ∷ [])) none x in
    mentions-still third new (OfClass name ∷ OfClass object ∷ [])
    (mentions-further second third (OfClass name ∷ []) (OfClass object ∷ []) begun y) z
