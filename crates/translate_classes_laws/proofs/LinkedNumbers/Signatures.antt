-- Signatures that are equal, and where one stands among others that are not.
use Rattle.std.proofs.Common.{◌≡◌, ℕ, zero, suc, ◌+◌, Bool, true, false, cond, ◌&&◌, List, [], ◌∷◌, map, Some, refl, sym, ap, subst, ◌∙◌, slice_get, position, arith}
use Rattle.std.specs.Prelude.{option_map}
use Rattle.std.specs.List.{IsDistinct, AllByRecursion}
use Rattle.std.proofs.lemmas.Bool.{and_parts, and_from, or_parts, or_from, or_left, or_right, true≢false}
use Rattle.std.proofs.lemmas.Map.Keys.{IsDistinct-head, IsDistinct-tail}
use Rattle.std.proofs.lemmas.Slice.Eq.{bytes_eq-Decides}
use Rattle.class_definition.specs.NameGrammar.{same_text}
use Rattle.class_definition.specs.MemberNames.{Signature, same_signature, has_signature, Reference, reference_to, same_reference}
use Rattle.class_definition.specs.LinkFault.{has_equal}
use Rattle.class_names.proofs.NumberLemmas.{same_text-refl}
use Rattle.class_names.proofs.PlaceLemmas.{position-cons}

signature-is : (s t : Signature) → same_signature s t ≡ true → s ≡ t
signature-is s t e =
    let p = and_parts (same_text s.name t.name) (same_text s.descriptor t.descriptor) e in
    let a : s.name ≡ t.name = (bytes_eq-Decides s.name t.name).0 p.0 in
    let b : s.descriptor ≡ t.descriptor = (bytes_eq-Decides s.descriptor t.descriptor).0 p.1 in
    λ i. record { name = a i; descriptor = b i }

signature-itself : (s : Signature) → same_signature s s ≡ true
signature-itself s = and_from (same_text s.name s.name) (same_text s.descriptor s.descriptor) (same_text-refl s.name) (same_text-refl s.descriptor)

pub signature-there : (ss : List Signature) (k : ℕ) (s : Signature) → slice_get ss k ≡ Some s → has_signature ss s ≡ true
signature-there [] k s e = absurd cc
signature-there (t ∷ ss) zero s e =
    let one : s ≡ t = cc in
    or_left (same_signature s t) (has_signature ss s) (subst (λ (x : Signature). same_signature s x ≡ true) one (signature-itself s))
signature-there (t ∷ ss) (suc k) s e = or_right (same_signature s t) (has_signature ss s) (signature-there ss k s e)

-- one that stands behind another is not this one, if no two are equal
signature-other : (t : Signature) (ss : List Signature) (k : ℕ) (s : Signature) → has_signature ss t ≡ false → slice_get ss k ≡ Some s → same_signature s t ≡ false
signature-other t ss k s new there = by (same_signature s t) refl
  where
    by : (b : Bool) → same_signature s t ≡ b → same_signature s t ≡ false
    by false e = e
    by true e =
        let one : s ≡ t = signature-is s t e in
        absurd (true≢false (sym (subst (λ (x : Signature). has_signature ss x ≡ true) one (signature-there ss k s there)) ∙ new))

-- the place of a member among those of its class
module _ (own : List ℕ) (s : Signature) where
  abbrev test : Reference → Bool
  test = same_reference (reference_to own s)

  same-own : (t : Signature) → test (reference_to own t) ≡ same_signature s t
  same-own t = ap (λ b. b && same_signature s t) (same_text-refl own)

  pub position-own : (ss : List Signature) (k : ℕ) → has_equal ss ≡ false → slice_get ss k ≡ Some s → position test (map (reference_to own) ss) ≡ Some k
  position-own [] k e there = absurd cc
  position-own (t ∷ ss) zero e there =
      let one : s ≡ t = cc in
      let here : test (reference_to own t) ≡ true = same-own t ∙ subst (λ (x : Signature). same_signature s x ≡ true) one (signature-itself s) in
      position-cons test (reference_to own t) (map (reference_to own) ss)
      ∙ ap (λ b. cond b (Some 0) (option_map (λ j. 1 + j) (position test (map (reference_to own) ss)))) here
  position-own (t ∷ ss) (suc k) e there =
      let p = or_parts (has_signature ss t) (has_equal ss) e in
      let other : test (reference_to own t) ≡ false = same-own t ∙ signature-other t ss k s p.0 there in
      let next : 1 + k ≡ suc k = omega arith in
      position-cons test (reference_to own t) (map (reference_to own) ss)
      ∙ ap (λ b. cond b (Some 0) (option_map (λ j. 1 + j) (position test (map (reference_to own) ss)))) other
      ∙ ap (option_map (λ j. 1 + j)) (position-own ss k p.1 there) ∙ ap (λ j. Some j) next

-- signatures that differ
new-signature : (s : Signature) (ss : List Signature) → AllByRecursion (λ t. same_signature s t ≡ false) ss → has_signature ss s ≡ false
new-signature s [] new = refl
new-signature s (t ∷ ss) new = or_from (same_signature s t) (has_signature ss s) new.0 (new-signature s ss new.1)

pub none-equal : (ss : List Signature) → IsDistinct same_signature ss → has_equal ss ≡ false
none-equal [] distinct = refl
none-equal (s ∷ ss) distinct =
    or_from (has_signature ss s) (has_equal ss) (new-signature s ss (IsDistinct-head same_signature s ss distinct))
    (none-equal ss (IsDistinct-tail same_signature s ss distinct))

apart-from : (s : Signature) (ss : List Signature) → has_signature ss s ≡ false → AllByRecursion (λ t. same_signature s t ≡ false) ss
apart-from s [] new = tt
apart-from s (t ∷ ss) new = let p = or_parts (same_signature s t) (has_signature ss s) new in (p.0, apart-from s ss p.1)

pub distinct-from : (ss : List Signature) → has_equal ss ≡ false → IsDistinct same_signature ss
unfolding IsDistinct
distinct-from [] none = tt
distinct-from (s ∷ ss) none = let p = or_parts (has_signature ss s) (has_equal ss) none in (apart-from s ss p.0, distinct-from ss p.1)
