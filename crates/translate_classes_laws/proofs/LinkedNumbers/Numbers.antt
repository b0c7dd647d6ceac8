-- The numbers of members in classes of which nothing stands twice.
use Rattle.std.proofs.Common.{◌≡◌, ℕ, zero, suc, ◌+◌, Bool, true, false, ◌&&◌, ◌||◌, List, [], ◌∷◌, map, length, Option, Some, None, is_some, refl, sym, ap, subst, ◌∙◌, slice_get, position, arith}
use Rattle.std.specs.Prelude.{option_map}
use Rattle.std.specs.Option.{option_or}
use Rattle.std.specs.List.{list_any, flat_map}
use Rattle.std.proofs.lemmas.Bool.{or_parts, or_left, or_right, true≢false}
use Rattle.std.proofs.lemmas.List.{length-map}
use Rattle.std.proofs.lemmas.Slice.Eq.{bytes_eq-Decides}
use Rattle.class_definition.specs.NameGrammar.{same_text}
use Rattle.class_definition.specs.declared.class.Class.{Class}
use Rattle.class_definition.specs.MemberNames.{Signature, same_signature, Reference, reference_to, same_reference, own_name, is_known, field_signature, method_signature, fields_of, methods_of, field_number, method_number}
use Rattle.class_definition.specs.LinkFault.{has_equal, is_twice, twice_fault}
use Rattle.class_names.proofs.NumberLemmas.{same_text-refl}
use Rattle.class_names.proofs.PlaceLemmas.{is_some-position, position-append}
use Rattle.class_names.proofs.FaultLemmas.{not_twice}
use Rattle.translate_classes_laws.specs.Before.{members_before, fields_before, methods_before}
use Rattle.translate_classes_laws.proofs.LinkedNumbers.Signatures.{position-own}

-- ---- what a class that is no fault is

pub record IsNew (before : List (List ℕ)) (c : Class) : Type 0 where
  pub name : list_any (same_text (own_name c)) before ≡ false
  pub unknown : is_known (own_name c) ≡ false
  pub fields : has_equal (fields_of c) ≡ false
  pub methods : has_equal (methods_of c) ≡ false

pub is-new : (before : List (List ℕ)) (c : Class) → is_twice before c ≡ false → IsNew before c
is-new before c e =
    let p = or_parts (list_any (same_text (own_name c)) before || is_known (own_name c) || has_equal (fields_of c)) (has_equal (methods_of c)) e in
    let q = or_parts (list_any (same_text (own_name c)) before || is_known (own_name c)) (has_equal (fields_of c)) p.0 in
    let r = or_parts (list_any (same_text (own_name c)) before) (is_known (own_name c)) q.0 in
    record { name = r.0; unknown = r.1; fields = q.1; methods = p.1 }

pub text-other : (name other : List ℕ) → (name ≡ other → ⊥) → same_text name other ≡ false
text-other name other differs = by (same_text name other) refl
  where
    by : (b : Bool) → same_text name other ≡ b → same_text name other ≡ false
    by false e = e
    by true e = absurd (differs ((bytes_eq-Decides name other).0 e))

-- a name that stands before is not that of a class behind
name-before : (name : List ℕ) (before : List (List ℕ)) (number : ℕ) (cs : List Class) → twice_fault before number cs ≡ None → list_any (same_text name) before ≡ true
    → (n : ℕ) (d : Class) → slice_get cs n ≡ Some d → name ≡ own_name d → ⊥
name-before name before number [] once there n d at same = absurd cc
name-before name before number (c ∷ cs) once there zero d at same =
    let p = not_twice before number c cs once in
    let one : c ≡ d = cc in
    let own : name ≡ own_name c = same ∙ ap own_name (sym one) in
    true≢false (sym (subst (λ (x : List ℕ). list_any (same_text x) before ≡ true) own there) ∙ (is-new before c p.0).name)
name-before name before number (c ∷ cs) once there (suc n) d at same =
    let p = not_twice before number c cs once in
    name-before name (own_name c ∷ before) (suc number) cs p.1 (or_right (same_text name (own_name c)) (list_any (same_text name) before) there) n d at same

-- a class behind has another name than the first one
pub other-name : (before : List (List ℕ)) (number : ℕ) (c : Class) (cs : List Class) → twice_fault (own_name c ∷ before) number cs ≡ None → (n : ℕ) (d : Class) → slice_get cs n ≡ Some d
    → same_text (own_name d) (own_name c) ≡ false
other-name before number c cs once n d at =
    text-other (own_name d) (own_name c) (λ same. name-before (own_name c) (own_name c ∷ before) number cs once
    (or_left (same_text (own_name c) (own_name c)) (list_any (same_text (own_name c)) before) (same_text-refl (own_name c))) n d at (sym same))

-- ---- numbers

gone : {A : Type 0} (o : Option A) → is_some o ≡ false → o ≡ None
gone None e = refl
gone (Some x) e = absurd cc

-- members of a class of another name
module _ (r : Reference) (own : List ℕ) (other : same_text r.class_name own ≡ false) where
  none-passes : (ss : List Signature) → list_any (same_reference r) (map (reference_to own) ss) ≡ false
  none-passes [] = refl
  none-passes (s ∷ ss) = λ i. (other i && same_signature r.signature s) || none-passes ss i

  position-other : (ss : List Signature) → position (same_reference r) (map (reference_to own) ss) ≡ None
  position-other ss = gone (position (same_reference r) (map (reference_to own) ss)) (is_some-position (same_reference r) (map (reference_to own) ss) ∙ none-passes ss)

module _ (members : Class → List Signature) (count : Class → ℕ) (counted : (c : Class) → length (members c) ≡ count c)
    (differ : (before : List (List ℕ)) (c : Class) → IsNew before c → has_equal (members c) ≡ false) where
  abbrev all : List Class → List Reference
  all cs = flat_map (λ c. map (reference_to (own_name c)) (members c)) cs

  abbrev own : Class → List Reference
  own c = map (reference_to (own_name c)) (members c)

  pub member-number : (before : List (List ℕ)) (number : ℕ) (cs : List Class) (n k : ℕ) (d : Class) (s : Signature) → twice_fault before number cs ≡ None
      → slice_get cs n ≡ Some d → slice_get (members d) k ≡ Some s → position (same_reference (reference_to (own_name d) s)) (all cs) ≡ Some (members_before count cs n + k)
  member-number before number [] n k d s once there here = absurd cc
  member-number before number (c ∷ cs) zero k d s once there here =
      let p = not_twice before number c cs once in
      let one : c ≡ d = cc in
      let new = differ before c (is-new before c p.0) in
      let found : position (same_reference (reference_to (own_name d) s)) (own d) ≡ Some k =
      position-own (own_name d) s (members d) k (subst (λ (x : Class). has_equal (members x) ≡ false) one new) here in
      let first : position (same_reference (reference_to (own_name d) s)) (own c) ≡ Some k = subst (λ (x : Class). position (same_reference (reference_to (own_name d) s)) (own x) ≡ Some k) (sym one) found in
      let none : k ≡ 0 + k = omega arith in
      position-append (same_reference (reference_to (own_name d) s)) (own c) (all cs)
      ∙ ap (λ o. option_or o (option_map (λ j. length (own c) + j) (position (same_reference (reference_to (own_name d) s)) (all cs)))) first
      ∙ ap (λ j. Some j) none
  member-number before number (c ∷ cs) (suc n) k d s once there here =
      let p = not_twice before number c cs once in
      let passed : position (same_reference (reference_to (own_name d) s)) (own c) ≡ None =
      position-other (reference_to (own_name d) s) (own_name c) (other-name before (suc number) c cs p.1 n d there) (members c) in
      let behind = member-number (own_name c ∷ before) (suc number) cs n k d s p.1 there here in
      let long : length (own c) ≡ count c = length-map (members c) (reference_to (own_name c)) ∙ counted c in
      let total : length (own c) + (members_before count cs n + k) ≡ count c + members_before count cs n + k = omega arith in
      position-append (same_reference (reference_to (own_name d) s)) (own c) (all cs)
      ∙ (λ i. option_or (passed i) (option_map (λ j. length (own c) + j) (behind i)))
      ∙ ap (λ j. Some j) total

pub method-number : (classes : List Class) (n k : ℕ) (c : Class) (s : Signature) → twice_fault [] 0 classes ≡ None → slice_get classes n ≡ Some c → slice_get (methods_of c) k ≡ Some s
    → method_number classes (reference_to (own_name c) s) ≡ Some (methods_before classes n + k)
method-number classes = member-number methods_of (λ c. length c.methods) (λ c. length-map c.methods (method_signature c)) (λ before c new. new.methods) [] 0 classes

pub field-number : (classes : List Class) (n k : ℕ) (c : Class) (s : Signature) → twice_fault [] 0 classes ≡ None → slice_get classes n ≡ Some c → slice_get (fields_of c) k ≡ Some s
    → field_number classes (reference_to (own_name c) s) ≡ Some (fields_before classes n + k)
field-number classes = member-number fields_of (λ c. length c.fields) (λ c. length-map c.fields (field_signature c)) (λ before c new. new.fields) [] 0 classes

-- a class has no known name
pub own-unknown : (before : List (List ℕ)) (number : ℕ) (cs : List Class) (n : ℕ) (d : Class) → twice_fault before number cs ≡ None → slice_get cs n ≡ Some d → is_known (own_name d) ≡ false
own-unknown before number [] n d once there = absurd cc
own-unknown before number (c ∷ cs) zero d once there =
    let one : c ≡ d = cc in
    subst (λ (x : Class). is_known (own_name x) ≡ false) one (is-new before c (not_twice before number c cs once).0).unknown
own-unknown before number (c ∷ cs) (suc n) d once there = own-unknown (own_name c ∷ before) (suc number) cs n d (not_twice before number c cs once).1 there
