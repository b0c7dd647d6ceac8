-- The method with which a program begins.
use Rattle.std.proofs.Common.{◌≡◌, ℕ, ◌<◌, ◌&&◌, Bool, List, [], ◌∷◌, map, length, Some, is_some, refl, sym, ap, subst, ◌∙◌, position, ◌+◌, arith}
use Rattle.std.specs.Prelude.{unwrap_or, option_map}
use Rattle.std.specs.List.{AllZip, All}
use Rattle.std.specs.Option.{option_or}
use Rattle.std.proofs.lemmas.List.Elements.{All-head}
use Rattle.std.proofs.lemmas.List.Quantifiers.{position-Some}
use Rattle.class_definition.specs.declared.class.Class.{Class}
use Rattle.class_definition.specs.declared.method.Method.{Method}
use Rattle.class_names.specs.Kept.{IsClass}
use Rattle.class_definition.specs.MemberNames.{own_name, Signature, same_signature, reference_to, same_reference, method_signature, methods_of, all_methods, method_number}
use Rattle.class_definition.specs.LinkFault.{run_signature, has_run}
use Rattle.class_definition.specs.Linking.{first_method}
use Rattle.class_names.proofs.NumberLemmas.{same_text-refl}
use Rattle.class_names.proofs.KeptLemmas.{kept_methods}
use Rattle.class_names.proofs.PlaceLemmas.{is_some-position, position-append, position_alike}

mapped : {A B : Type 0} (f : A → B) (xs : List A) → AllZip (λ x y. y ≡ f x) xs (map f xs)
mapped f [] = tt
mapped f (x ∷ xs) = (refl, mapped f xs)

abbrev is_run : Class → Method → Bool
is_run c m = same_signature run_signature (method_signature c m)

-- its place among the methods of a class, by their signatures
by_signature : (c : Class) → position (is_run c) c.methods ≡ position (same_signature run_signature) (methods_of c)
by_signature c =
    position_alike (λ m s. s ≡ method_signature c m) (is_run c) (same_signature run_signature) (λ m s e. ap (same_signature run_signature) (sym e)) c.methods (methods_of c) (mapped (method_signature c) c.methods)

pub run_there : (classes cs : List Class) (c : Class) → classes ≡ c ∷ cs → is_some (position (is_run c) c.methods) ≡ has_run classes
run_there classes cs c e = ap is_some (by_signature c) ∙ is_some-position (same_signature run_signature) (methods_of c) ∙ ap has_run (sym e)

references_same : (own : List ℕ) (ss : List Signature) → position (same_reference (reference_to own run_signature)) (map (reference_to own) ss) ≡ position (same_signature run_signature) ss
references_same own ss =
    sym (position_alike (λ s r. r ≡ reference_to own s) (same_signature run_signature) (same_reference (reference_to own run_signature))
    (λ s r e. sym (ap (same_reference (reference_to own run_signature)) e ∙ ap (λ b. b && same_signature run_signature s) (same_text-refl own))) ss (map (reference_to own) ss) (mapped (reference_to own) ss))

pub run_found : (classes cs : List Class) (c : Class) (n : ℕ) → classes ≡ c ∷ cs → position (is_run c) c.methods ≡ Some n → n ≡ first_method classes
run_found classes cs c n e found =
    let r = reference_to (own_name c) run_signature in
    let front : position (same_reference r) (map (reference_to (own_name c)) (methods_of c)) ≡ Some n = references_same (own_name c) (methods_of c) ∙ sym (by_signature c) ∙ found in
    let all : method_number (c ∷ cs) r ≡ Some n =
    position-append (same_reference r) (map (reference_to (own_name c)) (methods_of c)) (all_methods cs)
    ∙ ap (λ o. option_or o (option_map (λ k. length (map (reference_to (own_name c)) (methods_of c)) + k) (position (same_reference r) (all_methods cs)))) front in
    sym (ap (λ o. unwrap_or o 0) all) ∙ ap first_method (sym e)

pub run_small : (classes cs : List Class) (c : Class) (n : ℕ) → classes ≡ c ∷ cs → position (is_run c) c.methods ≡ Some n → All IsClass classes → n < 65536
run_small classes cs c n e found all =
    let P : List Class → Type 0 = λ xs. All IsClass xs in
    let kept : IsClass c = All-head IsClass c cs (subst P e all) in
    let h = position-Some (is_run c) c.methods n (record { name = 0; desc = 0; attr = 0; stack = 0; locals = 0; code = [] }) found in
    omega (arith, h.0, kept_methods c kept)
