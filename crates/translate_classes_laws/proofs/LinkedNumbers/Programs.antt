-- Where the program of classes has their fields and methods.
use Rattle.std.proofs.Common.{◌≡◌, ℕ, zero, suc, ◌+◌, List, [], ◌∷◌, ◌++◌, map, length, Some, refl, ap, subst, ◌∙◌, slice_get, append-nil, arith}
use Rattle.std.specs.Prelude.{option_map}
use Rattle.std.specs.List.{All}
use Rattle.std.proofs.lemmas.List.{length-map}
use Rattle.std.proofs.lemmas.Option.{slice_get-map}
use Rattle.jvm_definition.specs.declared.kind.Kind.{Kind}
use Rattle.class_definition.specs.declared.class.Class.{Class}
use Rattle.class_definition.specs.declared.member.Member.{Member}
use Rattle.class_definition.specs.declared.method.Method.{Method}
use Rattle.class_definition.specs.Linking.{field_kind, field_kinds, linked_method, methods_from}
use Rattle.translate_classes_laws.specs.Before.{fields_before, methods_before}

pub get-front : {A : Type 0} (xs ys : List A) (k : ℕ) (x : A) → slice_get xs k ≡ Some x → slice_get (xs ++ ys) k ≡ Some x
get-front [] ys k x e = absurd cc
get-front (y ∷ xs) ys zero x e = e
get-front (y ∷ xs) ys (suc k) x e = get-front xs ys k x e

pub get-behind : {A : Type 0} (xs ys : List A) (k : ℕ) → slice_get (xs ++ ys) (length xs + k) ≡ slice_get ys k
get-behind [] ys k = let none : 0 + k ≡ k = omega arith in ap (slice_get ys) none
get-behind (x ∷ xs) ys k =
    let next : suc (length xs) + k ≡ suc (length xs + k) = omega arith in
    ap (slice_get (x ∷ (xs ++ ys))) next ∙ get-behind xs ys k

-- what a list is mapped to, with others behind it
mapped-front : {A B : Type 0} (f : A → B) (xs : List A) (ys : List B) (k : ℕ) (x : A) → slice_get xs k ≡ Some x → slice_get (map f xs ++ ys) (0 + k) ≡ Some (f x)
mapped-front f xs ys k x e =
    let none : 0 + k ≡ k = omega arith in
    ap (slice_get (map f xs ++ ys)) none ∙ get-front (map f xs) ys k (f x) (slice_get-map f xs k ∙ ap (option_map f) e)

mapped-behind : {A B : Type 0} (f : A → B) (xs : List A) (ys : List B) (n k : ℕ) → slice_get (map f xs ++ ys) (length xs + n + k) ≡ slice_get ys (n + k)
mapped-behind f xs ys n k =
    let long : length (map f xs) ≡ length xs = length-map xs f in
    let place : length xs + n + k ≡ length (map f xs) + (n + k) = omega arith in
    ap (slice_get (map f xs ++ ys)) place ∙ get-behind (map f xs) ys (n + k)

-- ---- methods

method-from : (classes : List Class) (number : ℕ) (cs : List Class) (n k : ℕ) (c : Class) (m : Method) → slice_get cs n ≡ Some c → slice_get c.methods k ≡ Some m
    → slice_get (methods_from classes number cs) (methods_before cs n + k) ≡ Some (linked_method classes (number + n) c m)
method-from classes number [] n k c m there here = absurd cc
method-from classes number (d ∷ cs) zero k c m there here =
    let one : c ≡ d = cc in
    let same : number ≡ number + 0 = omega arith in
    subst (λ (x : Class). slice_get (map (linked_method classes number x) x.methods ++ methods_from classes (suc number) cs) (0 + k) ≡ Some (linked_method classes number c m)) one
    (mapped-front (linked_method classes number c) c.methods (methods_from classes (suc number) cs) k m here)
    ∙ ap (λ j. Some (linked_method classes j c m)) same
method-from classes number (d ∷ cs) (suc n) k c m there here =
    let same : suc number + n ≡ number + suc n = omega arith in
    mapped-behind (linked_method classes number d) d.methods (methods_from classes (suc number) cs) (methods_before cs n) k
    ∙ method-from classes (suc number) cs n k c m there here
    ∙ ap (λ j. Some (linked_method classes j c m)) same

pub method-linked : (classes : List Class) (n k : ℕ) (c : Class) (m : Method) → slice_get classes n ≡ Some c → slice_get c.methods k ≡ Some m
    → slice_get (methods_from classes 0 classes) (methods_before classes n + k) ≡ Some (linked_method classes n c m)
method-linked classes n k c m there here =
    let same : 0 + n ≡ n = omega arith in
    method-from classes 0 classes n k c m there here ∙ ap (λ j. Some (linked_method classes j c m)) same

-- ---- fields

pub field-typed : (classes : List Class) (n k : ℕ) (c : Class) (f : Member) → slice_get classes n ≡ Some c → slice_get c.fields k ≡ Some f
    → slice_get (field_kinds classes) (fields_before classes n + k) ≡ Some (field_kind c f)
field-typed [] n k c f there here = absurd cc
field-typed (d ∷ cs) zero k c f there here =
    let one : c ≡ d = cc in
    subst (λ (x : Class). slice_get (map (field_kind x) x.fields ++ field_kinds cs) (0 + k) ≡ Some (field_kind c f)) one
    (mapped-front (field_kind c) c.fields (field_kinds cs) k f here)
field-typed (d ∷ cs) (suc n) k c f there here = mapped-behind (field_kind d) d.fields (field_kinds cs) (fields_before cs n) k ∙ field-typed cs n k c f there here

no-kinds : (cs : List Class) → All (λ (d : Class). d.fields ≡ []) cs → field_kinds cs ≡ []
no-kinds [] none = refl
no-kinds (c ∷ cs) none =
    let first : c.fields ≡ [] = none 0 c (omega arith) in
    let others : field_kinds cs ≡ [] = no-kinds cs (λ k d h. none (suc k) d (omega arith)) in
    λ i. map (field_kind c) (first i) ++ others i

pub first-kinds : (c : Class) (others : List Class) → All (λ (d : Class). d.fields ≡ []) others → field_kinds (c ∷ others) ≡ map (field_kind c) c.fields
first-kinds c others none = ap (λ (ks : List Kind). map (field_kind c) c.fields ++ ks) (no-kinds others none) ∙ append-nil (map (field_kind c) c.fields)

-- ---- how many methods

pub none-before : (classes : List Class) → methods_before classes 0 ≡ 0
none-before [] = refl
none-before (c ∷ classes) = refl

pub more-before : (classes : List Class) (n : ℕ) (c : Class) → slice_get classes n ≡ Some c → methods_before classes (n + 1) ≡ methods_before classes n + length c.methods
more-before [] n c there = absurd cc
more-before (d ∷ cs) zero c there =
    let one : d ≡ c = cc in
    let n : methods_before cs 0 ≡ 0 = none-before cs in
    let long : length d.methods ≡ length c.methods = ap (λ (x : Class). length x.methods) one in
    omega arith
more-before (d ∷ cs) (suc n) c there =
    let next : suc n + 1 ≡ suc (n + 1) = omega arith in
    let more = more-before cs n c there in
    let total : length d.methods + methods_before cs (n + 1) ≡ length d.methods + methods_before cs n + length c.methods = omega arith in
    ap (methods_before (d ∷ cs)) next ∙ total
