-- The place of each method of a program in its classes.
use Rattle.std.proofs.Common.{◌≡◌, ℕ, zero, suc, ◌+◌, List, [], ◌∷◌, ◌++◌, map, length, Some, refl, ap, ◌∙◌, slice_get, ◌⊎◌, inl, inr, arith}
use Rattle.std.proofs.lemmas.List.{length-map}
use Rattle.jvm_definition.specs.declared.linked_method.LinkedMethod.{LinkedMethod}
use Rattle.class_definition.specs.declared.class.Class.{Class}
use Rattle.class_definition.specs.declared.method.Method.{Method}
use Rattle.class_definition.specs.Linking.{linked_method, methods_from}
use Rattle.translate_classes_laws.specs.Before.{methods_before}
use Rattle.translate_classes_laws.specs.Places.{IsMethodOf}

-- an element behind so many others
record IsBehind {A : Type 0} (others : ℕ) (xs : List A) (k : ℕ) (x : A) : Type 0 where
  rest : ℕ
  place : k ≡ others + rest
  there : slice_get xs rest ≡ Some x

front-or-behind : {A : Type 0} (xs ys : List A) (k : ℕ) (x : A) → slice_get (xs ++ ys) k ≡ Some x → (slice_get xs k ≡ Some x) ⊎ IsBehind (length xs) ys k x
front-or-behind [] ys k x e = let none : k ≡ 0 + k = omega arith in inr (record { rest = k; place = none; there = e })
front-or-behind (y ∷ xs) ys zero x e = inl e
front-or-behind (y ∷ xs) ys (suc k) x e =
    elim (front-or-behind xs ys k x e) [
      | inl here ↦ inl here
      | inr b ↦ let at : suc k ≡ suc (length xs) + b.rest = omega arith in inr (record { rest = b.rest; place = at; there = b.there })
    ]

mapped-from : {A B : Type 0} (f : A → B) (xs : List A) (k : ℕ) (y : B) → slice_get (map f xs) k ≡ Some y → (x : A) × (slice_get xs k ≡ Some x) × (y ≡ f x)
mapped-from f [] k y e = absurd cc
mapped-from f (x ∷ xs) zero y e = let same : y ≡ f x = cc in (x, refl, same)
mapped-from f (x ∷ xs) (suc k) y e = mapped-from f xs k y e

-- the same among classes, the first of which has a number
record IsMethodFrom (classes : List Class) (start : ℕ) (cs : List Class) (number : ℕ) (m : LinkedMethod) : Type 0 where
  class_number : ℕ
  place : ℕ
  class : Class
  method : Method
  class_is : slice_get cs class_number ≡ Some class
  method_is : slice_get class.methods place ≡ Some method
  number_is : number ≡ methods_before cs class_number + place
  linked_is : m ≡ linked_method classes (start + class_number) class method

method-place-from : (classes : List Class) (start : ℕ) (cs : List Class) (number : ℕ) (m : LinkedMethod) → slice_get (methods_from classes start cs) number ≡ Some m
    → IsMethodFrom classes start cs number m
method-place-from classes start [] number m e = absurd cc
method-place-from classes start (c ∷ cs) number m e =
    elim (front-or-behind (map (linked_method classes start c) c.methods) (methods_from classes (suc start) cs) number m e) [
      | inl here ↦
          let x = mapped-from (linked_method classes start c) c.methods number m here in
          let none : number ≡ 0 + number = omega arith in
          let same : start ≡ start + 0 = omega arith in
          record {
            class_number = 0;
            place = number;
            class = c;
            method = x.0;
            class_is = refl;
            method_is = x.1;
            number_is = none;
            linked_is = x.2 ∙ ap (λ j. linked_method classes j c x.0) same;
          }
      | inr b ↦
          let r = method-place-from classes (suc start) cs b.rest m b.there in
          let long : length (map (linked_method classes start c) c.methods) ≡ length c.methods = length-map c.methods (linked_method classes start c) in
          let at : b.rest ≡ methods_before cs r.class_number + r.place = r.number_is in
          let total : number ≡ length c.methods + methods_before cs r.class_number + r.place = omega arith in
          let same : suc start + r.class_number ≡ start + suc r.class_number = omega arith in
          record {
            class_number = suc r.class_number;
            place = r.place;
            class = r.class;
            method = r.method;
            class_is = r.class_is;
            method_is = r.method_is;
            number_is = total;
            linked_is = r.linked_is ∙ ap (λ j. linked_method classes j r.class r.method) same;
          }
    ]

pub method-place : (classes : List Class) (number : ℕ) (m : LinkedMethod) → slice_get (methods_from classes 0 classes) number ≡ Some m → IsMethodOf classes number m
method-place classes number m e =
    let r = method-place-from classes 0 classes number m e in
    let same : 0 + r.class_number ≡ r.class_number = omega arith in
    record {
      class_number = r.class_number;
      place = r.place;
      class = r.class;
      method = r.method;
      class_is = r.class_is;
      method_is = r.method_is;
      number_is = r.number_is;
      linked_is = r.linked_is ∙ ap (λ j. linked_method classes j r.class r.method) same;
    }
