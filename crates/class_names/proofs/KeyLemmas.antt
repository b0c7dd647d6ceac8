-- Keys stand for references.
use Rattle.std.proofs.Common.{◌≡◌, ℕ, ◌+◌, ◌<◌, ◌&&◌, ◌||◌, List, [], ◌∷◌, ◌++◌, length, get_or, map, Option, Some, None, refl, sym, ap, subst, ◌∙◌}
use Rattle.std.specs.Prelude.{nat_eq, unwrap_or, option_and_then}
use Rattle.std.specs.List.{AllZip, All, AllByRecursion, list_any, flat_map}
use Rattle.std.proofs.lemmas.List.Elements.{recursion_from_All, All-same, All-push, All-get_or}
use Rattle.std.proofs.lemmas.List.{map-append, take_more}
use Rattle.std.proofs.Common.{take}
use Rattle.class_definition.specs.declared.entry.Entry.{Entry}
use Rattle.class_definition.specs.declared.entry.Entry.TheVariants.{Utf8, Integer, Long, LongRest, ClassName, Text, FieldRef, MethodRef, NameAnd}
use Rattle.class_definition.specs.NameGrammar.{same_text}
use Rattle.class_definition.specs.PoolEntries.{class_entry_name, name_entry}
use Rattle.class_definition.specs.PoolChecks.{entry_at, text_at}
use Rattle.class_definition.specs.declared.class.Class.{Class}
use Rattle.class_definition.specs.declared.member.Member.{Member}
use Rattle.class_definition.specs.declared.method.Method.{Method}
use Rattle.class_names.specs.declared.key.Key.{Key}
use Rattle.class_names.specs.declared.numbered_class.NumberedClass.{NumberedClass}
use Rattle.class_definition.specs.MemberNames.{slot_text, class_name_at, own_name, Signature, signature, same_signature, signature_of, signature_at, Reference, reference_to, same_reference, field_signature, method_signature, fields_of, methods_of, all_fields, all_methods, has_class}
use Rattle.class_definition.specs.LinkFault.{has_equal}
use Rattle.class_names.specs.Numbers.{IsNumber, AreTexts, Keeps, number_at}
use Rattle.class_names.specs.Keys.{IsNumbered, classes_in, same_key, same_name, IsKey, class_number, pair_numbers, class_number_at, key_at, own_number, own_key, field_keys, method_keys, has_equal_keys}
use Rattle.class_names.proofs.NumberLemmas.{same_number, same_text-refl}
use Rattle.class_names.proofs.PlaceLemmas.{any_alike, AllZip-append, AllZip-map}

module _ (texts : List (List ℕ)) (are : AreTexts texts) where
  pub same_reference_by : (k l : Key) (r q : Reference) → IsKey texts k r → IsKey texts l q → same_key k l ≡ same_reference r q
  same_reference_by k l r q a b = λ i.
      same_number texts are k.class l.class r.class_name q.class_name a.class b.class i
      && (same_number texts are k.name l.name r.signature.name q.signature.name a.name b.name i
      && same_number texts are k.descriptor l.descriptor r.signature.descriptor q.signature.descriptor a.descriptor b.descriptor i)

  pub same_name_by : (k l : Key) (r q : Reference) → IsKey texts k r → IsKey texts l q → same_name k l ≡ (same_text r.class_name q.class_name && same_text r.signature.name q.signature.name)
  same_name_by k l r q a b = λ i.
      same_number texts are k.class l.class r.class_name q.class_name a.class b.class i
      && same_number texts are k.name l.name r.signature.name q.signature.name a.name b.name i

  module _ (x : NumberedClass) (numbered : IsNumbered texts x) where
    class_by : (e : Option Entry) → IsNumber texts (class_number (number_at x.numbers) e) (unwrap_or (option_and_then (text_at x.class.now.pool) (option_and_then class_entry_name e)) [])
    class_by None = are.empty
    class_by (Some (ClassName name)) = numbered name
    class_by (Some (Utf8 t)) = are.empty
    class_by (Some (Integer n)) = are.empty
    class_by (Some (Long n)) = are.empty
    class_by (Some LongRest) = are.empty
    class_by (Some (Text s)) = are.empty
    class_by (Some (FieldRef c n)) = are.empty
    class_by (Some (MethodRef c n)) = are.empty
    class_by (Some (NameAnd n d)) = are.empty

    pub class_is : (slot : ℕ) → IsNumber texts (class_number_at x slot) (class_name_at x.class.now slot)
    class_is slot = class_by (entry_at x.class.now.pool slot)

    abbrev IsPair : ℕ × ℕ → Signature → Type 0
    IsPair p s = IsNumber texts p.0 s.name × IsNumber texts p.1 s.descriptor

    pair_by : (e : Option Entry) → IsPair (pair_numbers (number_at x.numbers) e) (signature_of x.class.now (option_and_then name_entry e))
    pair_by None = (are.empty, are.empty)
    pair_by (Some (NameAnd n d)) = (numbered n, numbered d)
    pair_by (Some (Utf8 t)) = (are.empty, are.empty)
    pair_by (Some (Integer n)) = (are.empty, are.empty)
    pair_by (Some (Long n)) = (are.empty, are.empty)
    pair_by (Some LongRest) = (are.empty, are.empty)
    pair_by (Some (ClassName n)) = (are.empty, are.empty)
    pair_by (Some (Text s)) = (are.empty, are.empty)
    pair_by (Some (FieldRef c n)) = (are.empty, are.empty)
    pair_by (Some (MethodRef c n)) = (are.empty, are.empty)

    pub key_is : (class name : ℕ) → IsKey texts (key_at x class name) (reference_to (class_name_at x.class.now class) (signature_at x.class.now name))
    key_is class name =
        let p = pair_by (entry_at x.class.now.pool name) in
        record { class = class_is class; name = p.0; descriptor = p.1 }

    pub own_key_is : (name descriptor : ℕ) → IsKey texts (own_key x name descriptor) (reference_to (own_name x.class.now) (signature (slot_text x.class.now name) (slot_text x.class.now descriptor)))
    own_key_is name descriptor = record { class = class_is x.class.now.this_class; name = numbered name; descriptor = numbered descriptor }

    abbrev IsOwnKey : Key → Signature → Type 0
    IsOwnKey k s = IsKey texts k (reference_to (own_name x.class.now) s)

    pub fields_are : AllZip IsOwnKey (field_keys x) (fields_of x.class.now)
    fields_are = AllZip-map IsOwnKey (λ (f : Member). own_key x f.name f.desc) (field_signature x.class.now) (λ f. own_key_is f.name f.desc) x.class.now.fields

    pub methods_are : AllZip IsOwnKey (method_keys x) (methods_of x.class.now)
    methods_are = AllZip-map IsOwnKey (λ (m : Method). own_key x m.name m.desc) (method_signature x.class.now) (λ m. own_key_is m.name m.desc) x.class.now.methods

    same_own : (k l : Key) (s t : Signature) → IsOwnKey k s → IsOwnKey l t → same_key k l ≡ same_signature s t
    same_own k l s t a b = same_reference_by k l (reference_to (own_name x.class.now) s) (reference_to (own_name x.class.now) t) a b ∙ ap (λ d. d && same_signature s t) (same_text-refl (own_name x.class.now))

    pub equal_is : (keys : List Key) (ss : List Signature) → AllZip IsOwnKey keys ss → has_equal_keys keys ≡ has_equal ss
    equal_is [] [] zip = refl
    equal_is [] (s ∷ ss) zip = absurd zip
    equal_is (k ∷ keys) [] zip = absurd zip
    equal_is (k ∷ keys) (s ∷ ss) zip = λ i.
        any_alike IsOwnKey (same_key k) (same_signature s) (λ l t b. same_own k l s t zip.0 b) keys ss zip.1 i || equal_is keys ss zip.1 i

    pub own_references : (keys : List Key) (ss : List Signature) → AllZip IsOwnKey keys ss → AllZip (IsKey texts) keys (map (reference_to (own_name x.class.now)) ss)
    own_references [] [] zip = tt
    own_references [] (s ∷ ss) zip = absurd zip
    own_references (k ∷ keys) [] zip = absurd zip
    own_references (k ∷ keys) (s ∷ ss) zip = (zip.0, own_references keys ss zip.1)

  all_fields_by : (xs : List NumberedClass) → AllByRecursion (IsNumbered texts) xs → AllZip (IsKey texts) (flat_map field_keys xs) (all_fields (classes_in xs))
  all_fields_by [] h = tt
  all_fields_by (x ∷ xs) h =
      AllZip-append (IsKey texts) (field_keys x) (flat_map field_keys xs) (map (reference_to (own_name x.class.now)) (fields_of x.class.now)) (all_fields (classes_in xs))
      (own_references x h.0 (field_keys x) (fields_of x.class.now) (fields_are x h.0)) (all_fields_by xs h.1)

  all_methods_by : (xs : List NumberedClass) → AllByRecursion (IsNumbered texts) xs → AllZip (IsKey texts) (flat_map method_keys xs) (all_methods (classes_in xs))
  all_methods_by [] h = tt
  all_methods_by (x ∷ xs) h =
      AllZip-append (IsKey texts) (method_keys x) (flat_map method_keys xs) (map (reference_to (own_name x.class.now)) (methods_of x.class.now)) (all_methods (classes_in xs))
      (own_references x h.0 (method_keys x) (methods_of x.class.now) (methods_are x h.0)) (all_methods_by xs h.1)

  pub all_fields_are : (xs : List NumberedClass) → All (IsNumbered texts) xs → AllZip (IsKey texts) (flat_map field_keys xs) (all_fields (classes_in xs))
  all_fields_are xs h = all_fields_by xs (recursion_from_All (IsNumbered texts) xs h)

  pub all_methods_are : (xs : List NumberedClass) → All (IsNumbered texts) xs → AllZip (IsKey texts) (flat_map method_keys xs) (all_methods (classes_in xs))
  all_methods_are xs h = all_methods_by xs (recursion_from_All (IsNumbered texts) xs h)

  class_found_by : (n : ℕ) (text : List ℕ) → IsNumber texts n text → (xs : List NumberedClass) → AllByRecursion (IsNumbered texts) xs → list_any (nat_eq n) (map own_number xs) ≡ has_class (classes_in xs) text
  class_found_by n text h [] all = refl
  class_found_by n text h (x ∷ xs) all = λ i.
      same_number texts are n (own_number x) text (own_name x.class.now) h (class_is x all.0 x.class.now.this_class) i || class_found_by n text h xs all.1 i

  pub class_found : (n : ℕ) (text : List ℕ) → IsNumber texts n text → (xs : List NumberedClass) → All (IsNumbered texts) xs → list_any (nat_eq n) (map own_number xs) ≡ has_class (classes_in xs) text
  class_found n text h xs all = class_found_by n text h xs (recursion_from_All (IsNumbered texts) xs all)

-- ---- one more class with its numbers

pub numbered_push : (old new : List (List ℕ)) → Keeps old new → (xs ys : List NumberedClass) (x : NumberedClass) → ys ≡ xs ++ x ∷ [] → All (IsNumbered old) xs → IsNumbered new x → All (IsNumbered new) ys
numbered_push old new keeps xs ys x made all here =
    All-same (IsNumbered new) ys (xs ++ x ∷ []) made (All-push (IsNumbered new) xs x (λ k d h slot. keeps _ _ (all k d h slot)) here)

pub classes_push : (xs ys : List NumberedClass) (x : NumberedClass) (cs : List Class) (i : ℕ) (c : Class) → ys ≡ xs ++ x ∷ [] → classes_in xs ≡ take i cs → x.class.now ≡ c → i < length cs → c ≡ get_or cs i c
    → classes_in ys ≡ take (i + 1) cs
classes_push xs ys x cs i c made same here h is =
    let class_in : NumberedClass → Class = λ y. y.class.now in
    let last : x.class.now ≡ get_or cs i c = here ∙ is in
    ap classes_in made ∙ map-append class_in xs (x ∷ []) ∙ (λ j. same j ++ last j ∷ []) ∙ sym (take_more cs i c h)

-- a class among those with numbers has its own
pub numbered_at : (texts : List (List ℕ)) (xs : List NumberedClass) (i : ℕ) (x : NumberedClass) → All (IsNumbered texts) xs → i < length xs → x ≡ get_or xs i x → IsNumbered texts x
numbered_at texts xs i x all h is =
    let P : NumberedClass → Type 0 = λ y. IsNumbered texts y in
    subst P (sym is) (All-get_or (IsNumbered texts) xs i x h all)

-- the same class in the list that was lent
pub at_items : (xs items : List NumberedClass) → xs ≡ items → (i : ℕ) (x : NumberedClass) → i < length xs → x ≡ get_or xs i x → (i < length items) × (x ≡ get_or items i x)
at_items xs items e i x h is =
    let P : List NumberedClass → Type 0 = λ ys. (i < length ys) × (x ≡ get_or ys i x) in
    subst P e (h, is)
