-- Faults by keys are those by names, where no name stands twice.
use Rattle.std.proofs.Common.{◌≡◌, ℕ, suc, Bool, true, false, cond, ◌&&◌, ◌||◌, List, [], ◌∷◌, ◌++◌, map, Option, Some, None, refl, sym, ap, subst, ◌∙◌, position, length, drop, take, get_or, drop-cons, add-one, ◌+◌, ◌<◌}
use Rattle.std.specs.Prelude.{nat_eq}
use Rattle.std.proofs.Common.{◌≤◌, ◌*◌, append-nil, length-append, arith}
use Rattle.std.proofs.lemmas.List.{take_more}
use Rattle.std.proofs.lemmas.List.Concat.{flat_map-append}
use Rattle.std.specs.List.{AllZip, All, list_any, flat_map}
use Rattle.std.proofs.lemmas.Cmp.{nat_eq_equiv}
use Rattle.std.proofs.lemmas.Bool.{or_parts, or_right, or_from, true≢false}
use Rattle.std.proofs.lemmas.List.Folds.{list_any-append}
use Rattle.std.proofs.lemmas.Slice.Eq.{bytes_eq-Decides}
use Rattle.class_definition.specs.NameGrammar.{same_text}
use Rattle.class_definition.specs.declared.class.Class.{Class}
use Rattle.class_names.specs.declared.key.Key.{Key}
use Rattle.class_definition.specs.declared.link_fault.LinkFault.{LinkFault}
use Rattle.class_names.specs.declared.numbered_class.NumberedClass.{NumberedClass}
use Rattle.class_definition.specs.MemberNames.{class_name_at, signature_at, own_name, Signature, same_signature, Reference, reference_to, same_reference, fields_of, methods_of, has_class, is_known, members_named, fields_named, methods_named, known_methods, field_number, method_number}
use Rattle.class_definition.specs.LinkFault.{other_descriptors, no_field, no_method, twice, at_class, member_fault, has_equal, is_twice, twice_fault}
use Rattle.class_names.specs.Numbers.{IsNumber, AreTexts}
use Rattle.class_names.specs.Keys.{class_number_at, key_at, IsNumbered, classes_in, same_key, same_name, IsKey, own_number, field_keys, method_keys, is_twice_by, key_fault, Knows}
use Rattle.class_names.proofs.NumberLemmas.{same_number}
use Rattle.class_names.proofs.PlaceLemmas.{any_alike, position_alike}
use Rattle.class_names.proofs.KeyLemmas.{key_is, same_reference_by, same_name_by, class_is, fields_are, methods_are, equal_is, all_fields_are, all_methods_are, class_found}

none_of : {A : Type 0} (b : Bool) (x : A) (o : Option A) → cond b (Some x) o ≡ None → (b ≡ false) × (o ≡ None)
none_of true x o e = absurd cc
none_of false x o e = (refl, e)

or_false : (b : Bool) → (b || false) ≡ b
or_false true = refl
or_false false = refl

-- a class that is no fault, and those behind it
pub not_twice : (before : List (List ℕ)) (n : ℕ) (c : Class) (cs : List Class) → twice_fault before n (c ∷ cs) ≡ None → (is_twice before c ≡ false) × (twice_fault (own_name c ∷ before) (suc n) cs ≡ None)
not_twice before n c cs e = none_of (is_twice before c) _ (twice_fault (own_name c ∷ before) (suc n) cs) e

new_name : (before : List (List ℕ)) (c : Class) → is_twice before c ≡ false → list_any (same_text (own_name c)) before ≡ false
new_name before c e =
    let p = or_parts (list_any (same_text (own_name c)) before || is_known (own_name c) || has_equal (fields_of c)) (has_equal (methods_of c)) e in
    let q = or_parts (list_any (same_text (own_name c)) before || is_known (own_name c)) (has_equal (fields_of c)) p.0 in
    (or_parts (list_any (same_text (own_name c)) before) (is_known (own_name c)) q.0).0

-- the name of a class before is not that of a class behind
not_again : (name : List ℕ) (before : List (List ℕ)) (n : ℕ) (cs : List Class) → twice_fault before n cs ≡ None → list_any (same_text name) before ≡ true → has_class cs name ≡ false
not_again name before n [] e there = refl
not_again name before n (c ∷ cs) e there =
    let p = not_twice before n c cs e in
    or_from (same_text name (own_name c)) (has_class cs name) (by (same_text name (own_name c)) refl (new_name before c p.0))
    (not_again name (own_name c ∷ before) (suc n) cs p.1 (or_right (same_text name (own_name c)) (list_any (same_text name) before) there))
  where
    by : (b : Bool) → same_text name (own_name c) ≡ b → list_any (same_text (own_name c)) before ≡ false → same_text name (own_name c) ≡ false
    by true e new =
        let one : name ≡ own_name c = (bytes_eq-Decides name (own_name c)).0 e in
        let P : List ℕ → Type 0 = λ t. list_any (same_text t) before ≡ true in
        absurd (true≢false (sym (subst P one there) ∙ new))
    by false e new = e

-- ---- the members of a class by its name

module _ (members : Class → List Signature) (name : List ℕ) (P : Signature → Bool) where
  abbrev all : List Class → List Reference
  all cs = flat_map (λ c. map (reference_to (own_name c)) (members c)) cs

  abbrev passes : Reference → Bool
  passes r = same_text name r.class_name && P r.signature

  front_named : (own : List ℕ) → same_text name own ≡ true → (ss : List Signature) → list_any passes (map (reference_to own) ss) ≡ list_any P ss
  front_named own e [] = refl
  front_named own e (s ∷ ss) = λ i. (e i && P s) || front_named own e ss i

  front_other : (own : List ℕ) → same_text name own ≡ false → (ss : List Signature) → list_any passes (map (reference_to own) ss) ≡ false
  front_other own e [] = refl
  front_other own e (s ∷ ss) = λ i. (e i && P s) || front_other own e ss i

  absent : (cs : List Class) → has_class cs name ≡ false → list_any passes (all cs) ≡ false
  absent [] e = refl
  absent (c ∷ cs) e =
      let p = or_parts (same_text name (own_name c)) (has_class cs name) e in
      list_any-append passes (map (reference_to (own_name c)) (members c)) (all cs) ∙ (λ i. front_other (own_name c) p.0 (members c) i || absent cs p.1 i)

  pub found : (before : List (List ℕ)) (n : ℕ) (cs : List Class) → twice_fault before n cs ≡ None → list_any passes (all cs) ≡ list_any P (members_named members [] cs name)
  found before n [] e = refl
  found before n (c ∷ cs) e =
      let p = not_twice before n c cs e in
      list_any-append passes (map (reference_to (own_name c)) (members c)) (all cs) ∙ by (same_text name (own_name c)) refl p.1 (found (own_name c ∷ before) (suc n) cs p.1)
    where
      by : (b : Bool) → same_text name (own_name c) ≡ b → twice_fault (own_name c ∷ before) (suc n) cs ≡ None → list_any passes (all cs) ≡ list_any P (members_named members [] cs name)
          → (list_any passes (map (reference_to (own_name c)) (members c)) || list_any passes (all cs)) ≡ list_any P (cond b (members c) (members_named members [] cs name))
      by true same once others =
          let gone = absent cs (not_again name (own_name c ∷ before) (suc n) cs once (ap (λ b. b || list_any (same_text name) before) same)) in
          (λ i. front_named (own_name c) same (members c) i || gone i) ∙ or_false (list_any P (members c))
      by false other once others = λ i. front_other (own_name c) other (members c) i || others i

  -- the class is there, so no others count
  pub there : (others : List Signature) (cs : List Class) → has_class cs name ≡ true → members_named members others cs name ≡ members_named members [] cs name
  there others [] e = absurd cc
  there others (c ∷ cs) e = by (same_text name (own_name c)) e (there others cs)
    where
      by : (b : Bool) → (b || has_class cs name) ≡ true → (has_class cs name ≡ true → members_named members others cs name ≡ members_named members [] cs name) → cond b (members c) (members_named members others cs name) ≡ cond b (members c) (members_named members [] cs name)
      by true h more = refl
      by false h more = more h

pub not_there : (members : Class → List Signature) (name : List ℕ) (others : List Signature) (cs : List Class) → has_class cs name ≡ false → members_named members others cs name ≡ others
not_there members name others [] e = refl
not_there members name others (c ∷ cs) e =
    let p = or_parts (same_text name (own_name c)) (has_class cs name) e in
    ap (λ b. cond b (members c) (members_named members others cs name)) p.0 ∙ not_there members name others cs p.1

-- ---- what keys say

abbrev by_tests : ℕ → Bool → Bool → Option ℕ
by_tests missing a b = cond a None (cond b (Some other_descriptors) (Some missing))

module _ (texts : List (List ℕ)) (are : AreTexts texts) (cs : List Class) (once : twice_fault [] 0 cs ≡ None)
    (members : Class → List Signature) (keys : List Key) (zip : AllZip (IsKey texts) keys (flat_map (λ c. map (reference_to (own_name c)) (members c)) cs)) where
  abbrev references : List Reference
  references = flat_map (λ c. map (reference_to (own_name c)) (members c)) cs

  pub number_by : (k : Key) (r : Reference) → IsKey texts k r → position (same_key k) keys ≡ position (same_reference r) references
  number_by k r is = position_alike (IsKey texts) (same_key k) (same_reference r) (λ l q b. same_reference_by texts are k l r q is b) keys references zip

  pub fault_by : (missing : ℕ) (k : Key) (r : Reference) → IsKey texts k r → key_fault missing keys k ≡ member_fault missing (members_named members [] cs r.class_name) r.signature
  fault_by missing k r is =
      let one = any_alike (IsKey texts) (same_key k) (same_reference r) (λ l q b. same_reference_by texts are k l r q is b) keys references zip
      ∙ found members r.class_name (same_signature r.signature) [] 0 cs once in
      let two = any_alike (IsKey texts) (same_name k) (λ (q : Reference). same_text r.class_name q.class_name && same_text r.signature.name q.signature.name) (λ l q b. same_name_by texts are k l r q is b) keys references zip
      ∙ found members r.class_name (λ (s : Signature). same_text r.signature.name s.name) [] 0 cs once in
      λ i. by_tests missing (one i) (two i)

pub knows : (texts : List (List ℕ)) → AreTexts texts → (xs : List NumberedClass) → All (IsNumbered texts) xs → twice_fault [] 0 (classes_in xs) ≡ None
    → (names : List ℕ) → ((n : ℕ) → list_any (nat_eq n) names ≡ list_any (nat_eq n) (map own_number xs))
    → Knows texts names (flat_map field_keys xs) (flat_map method_keys xs) (classes_in xs)
knows texts are xs all once names same = record {
  class = λ n text h. same n ∙ class_found texts are n text h xs all;
  field = number_by texts are (classes_in xs) once fields_of (flat_map field_keys xs) (all_fields_are texts are xs all);
  method = number_by texts are (classes_in xs) once methods_of (flat_map method_keys xs) (all_methods_are texts are xs all);
  field_fault = λ k r h. fault_by texts are (classes_in xs) once fields_of (flat_map field_keys xs) (all_fields_are texts are xs all) no_field k r h;
  method_fault = λ k r h here.
      fault_by texts are (classes_in xs) once methods_of (flat_map method_keys xs) (all_methods_are texts are xs all) no_method k r h
      ∙ ap (λ ss. member_fault no_method ss r.signature) (sym (there methods_of r.class_name (λ _. true) (known_methods r.class_name) (classes_in xs) here));
}

-- ---- the first class at fault, by numbers

-- the numbers of the names before
abbrev pub AreBefore : List (List ℕ) → List ℕ → List (List ℕ) → Type 0
AreBefore texts names before = (n : ℕ) (text : List ℕ) → IsNumber texts n text → list_any (nat_eq n) names ≡ list_any (same_text text) before

pub twice_is : (texts : List (List ℕ)) → AreTexts texts → (names : List ℕ) (before : List (List ℕ)) → AreBefore texts names before → (x : NumberedClass) → IsNumbered texts x → is_twice_by names x ≡ is_twice before x.class.now
twice_is texts are names before is x numbered = λ i.
    is (own_number x) (own_name x.class.now) (class_is texts are x numbered x.class.now.this_class) i
    || is_known (own_name x.class.now)
    || equal_is texts are x numbered (field_keys x) (fields_of x.class.now) (fields_are texts are x numbered) i
    || equal_is texts are x numbered (method_keys x) (methods_of x.class.now) (methods_are texts are x numbered) i

pub before_more : (texts : List (List ℕ)) → AreTexts texts → (names after : List ℕ) (before : List (List ℕ)) → AreBefore texts names before → (x : NumberedClass) → IsNumbered texts x
    → ((n : ℕ) → list_any (nat_eq n) after ≡ cond (nat_eq (own_number x) n) true (list_any (nat_eq n) names)) → AreBefore texts after (own_name x.class.now ∷ before)
before_more texts are names after before is x numbered made = λ n text h.
    made n ∙ or_of (nat_eq (own_number x) n) (list_any (nat_eq n) names)
    ∙ (λ i. turned n i || list_any (nat_eq n) names)
    ∙ (λ i. same_number texts are n (own_number x) text (own_name x.class.now) h (class_is texts are x numbered x.class.now.this_class) i || is n text h i)
  where
    or_of : (a b : Bool) → cond a true b ≡ (a || b)
    or_of true b = refl
    or_of false b = refl

    turned : (n : ℕ) → nat_eq (own_number x) n ≡ nat_eq n (own_number x)
    turned n = nat_eq_equiv.symm (own_number x) n

-- one more class
pub one_class : (xs : List NumberedClass) (i : ℕ) (x : NumberedClass) → i < length xs → x ≡ get_or xs i x → classes_in (drop i xs) ≡ x.class.now ∷ classes_in (drop (i + 1) xs)
one_class xs i x h is =
    let all : drop i xs ≡ get_or xs i x ∷ drop (suc i) xs = drop-cons xs i x h in
    let one : get_or xs i x ∷ drop (suc i) xs ≡ x ∷ drop (i + 1) xs = rw (add-one) (ap (λ (y : NumberedClass). y ∷ drop (suc i) xs) (sym is)) in
    ap classes_in (all ∙ one)

pub goes_on : (before : List (List ℕ)) (n : ℕ) (xs : List NumberedClass) (i : ℕ) (x : NumberedClass) (total : Option LinkFault) → i < length xs → x ≡ get_or xs i x
    → twice_fault before n (classes_in (drop i xs)) ≡ total → is_twice before x.class.now ≡ false → twice_fault (own_name x.class.now ∷ before) (n + 1) (classes_in (drop (i + 1) xs)) ≡ total
goes_on before n xs i x total h is same apart =
    let here : twice_fault before n (x.class.now ∷ classes_in (drop (i + 1) xs)) ≡ total = ap (twice_fault before n) (sym (one_class xs i x h is)) ∙ same in
    let next : twice_fault before n (x.class.now ∷ classes_in (drop (i + 1) xs)) ≡ twice_fault (own_name x.class.now ∷ before) (suc n) (classes_in (drop (i + 1) xs)) =
    ap (λ b. cond b (at_class twice n) (twice_fault (own_name x.class.now ∷ before) (suc n) (classes_in (drop (i + 1) xs)))) apart in
    let more : n + 1 ≡ suc n = add-one n in
    ap (λ m. twice_fault (own_name x.class.now ∷ before) m (classes_in (drop (i + 1) xs))) more ∙ sym next ∙ here

pub stops : (before : List (List ℕ)) (n : ℕ) (xs : List NumberedClass) (i : ℕ) (x : NumberedClass) (total : Option LinkFault) → i < length xs → x ≡ get_or xs i x
    → twice_fault before n (classes_in (drop i xs)) ≡ total → is_twice before x.class.now ≡ true → at_class twice n ≡ total
stops before n xs i x total h is same again =
    let here : twice_fault before n (x.class.now ∷ classes_in (drop (i + 1) xs)) ≡ total = ap (twice_fault before n) (sym (one_class xs i x h is)) ∙ same in
    sym (ap (λ b. cond b (at_class twice n) (twice_fault (own_name x.class.now ∷ before) (suc n) (classes_in (drop (i + 1) xs)))) again) ∙ here

-- ---- the keys of all classes

pub keys_more : (keys_of : NumberedClass → List Key) (before after : List Key) (xs : List NumberedClass) (i : ℕ) (x : NumberedClass) → i < length xs → x ≡ get_or xs i x
    → before ≡ flat_map keys_of (take i xs) → after ≡ before ++ keys_of x → after ≡ flat_map keys_of (take (i + 1) xs)
keys_more keys_of before after xs i x h is so_far made =
    let last : keys_of x ++ [] ≡ keys_of x = append-nil (keys_of x) in
    let all : take i xs ++ x ∷ [] ≡ take (i + 1) xs = ap (λ (y : NumberedClass). take i xs ++ y ∷ []) is ∙ sym (take_more xs i x h) in
    made ∙ (λ j. so_far j ++ sym last j) ∙ sym (flat_map-append keys_of (take i xs) (x ∷ [])) ∙ ap (flat_map keys_of) all

pub few_more : (before after keys : List Key) (i n : ℕ) → length before ≤ 65536 * i → n < 65536 → length keys ≡ n → after ≡ before ++ keys → length after ≤ 65536 * (i + 1)
few_more before after keys i n few small is made =
    let total : length after ≡ length before + length keys = ap length made ∙ length-append before keys in
    omega arith

pub knows_of : (texts : List (List ℕ)) → AreTexts texts → (xs : List NumberedClass) → All (IsNumbered texts) xs → twice_fault [] 0 (classes_in xs) ≡ None
    → (names : List ℕ) (fields methods : List Key) (vs bs cs : List NumberedClass) → vs ≡ xs → bs ≡ xs → cs ≡ xs
    → ((n : ℕ) → list_any (nat_eq n) names ≡ list_any (nat_eq n) (map own_number vs)) → fields ≡ flat_map field_keys bs → methods ≡ flat_map method_keys cs
    → Knows texts names fields methods (classes_in xs)
knows_of texts are xs all once names fields methods vs bs cs a b c names_are fields_are methods_are =
    let P : List Key → Type 0 = λ ks. Knows texts names ks (flat_map method_keys xs) (classes_in xs) in
    let Q : List Key → Type 0 = λ ks. Knows texts names fields ks (classes_in xs) in
    let is = knows texts are xs all once names (λ n. names_are n ∙ ap (λ (ys : List NumberedClass). list_any (nat_eq n) (map own_number ys)) a) in
    let e : flat_map field_keys xs ≡ fields = ap (flat_map field_keys) (sym b) ∙ sym fields_are in
    let f : flat_map method_keys xs ≡ methods = ap (flat_map method_keys) (sym c) ∙ sym methods_are in
    subst Q f (subst P e is)

-- ---- references

module _ (texts : List (List ℕ)) (are : AreTexts texts) (names : List ℕ) (fields methods : List Key) (cs : List Class) (is : Knows texts names fields methods cs) (x : NumberedClass) (numbered : IsNumbered texts x)
    (class name : ℕ) where
  abbrev meant : Reference
  meant = reference_to (class_name_at x.class.now class) (signature_at x.class.now name)

  pub field_fault_is : (k : Key) → k ≡ key_at x class name → key_fault no_field fields k ≡ member_fault no_field (fields_named cs (class_name_at x.class.now class)) (signature_at x.class.now name)
  field_fault_is k e = ap (key_fault no_field fields) e ∙ is.field_fault (key_at x class name) meant (key_is texts are x numbered class name)

  pub class_there : (n : ℕ) → n ≡ class_number_at x class → list_any (nat_eq n) names ≡ has_class cs (class_name_at x.class.now class)
  class_there n e = ap (λ m. list_any (nat_eq m) names) e ∙ is.class (class_number_at x class) (class_name_at x.class.now class) (class_is texts are x numbered class)

  pub method_fault_is : (k : Key) → k ≡ key_at x class name → has_class cs (class_name_at x.class.now class) ≡ true
      → key_fault no_method methods k ≡ member_fault no_method (methods_named cs (class_name_at x.class.now class)) (signature_at x.class.now name)
  method_fault_is k e there = ap (key_fault no_method methods) e ∙ is.method_fault (key_at x class name) meant (key_is texts are x numbered class name) there

  pub known_fault_is : (owner : List ℕ) (s : Signature) → owner ≡ class_name_at x.class.now class → s ≡ signature_at x.class.now name → has_class cs (class_name_at x.class.now class) ≡ false
      → member_fault no_method (known_methods owner) s ≡ member_fault no_method (methods_named cs (class_name_at x.class.now class)) (signature_at x.class.now name)
  known_fault_is owner s e f gone =
      (λ i. member_fault no_method (known_methods (e i)) (f i))
      ∙ ap (λ ss. member_fault no_method ss (signature_at x.class.now name)) (sym (not_there methods_of (class_name_at x.class.now class) (known_methods (class_name_at x.class.now class)) cs gone))

  pub field_number_is : (k : Key) → k ≡ key_at x class name → position (same_key k) fields ≡ field_number cs meant
  field_number_is k e = ap (λ l. position (same_key l) fields) e ∙ is.field (key_at x class name) meant (key_is texts are x numbered class name)

  pub method_number_is : (k : Key) → k ≡ key_at x class name → position (same_key k) methods ≡ method_number cs meant
  method_number_is k e = ap (λ l. position (same_key l) methods) e ∙ is.method (key_at x class name) meant (key_is texts are x numbered class name)
