-- Classes of which nothing stands twice.
use Rattle.std.proofs.Common.{◌≡◌, ℕ, suc, false, cond, ◌||◌, List, [], ◌∷◌, map, None, refl, ap, ◌∙◌, arith}
use Rattle.std.specs.List.{All, AllByRecursion, IsDistinct, list_any}
use Rattle.std.proofs.lemmas.Bool.{or_from}
use Rattle.std.proofs.lemmas.Cmp.{nat_list_eq_equiv}
use Rattle.std.proofs.lemmas.Map.Keys.{IsDistinct-head, IsDistinct-tail}
use Rattle.class_definition.specs.NameGrammar.{same_text}
use Rattle.class_definition.specs.declared.class.Class.{Class}
use Rattle.class_definition.specs.MemberNames.{own_name, is_known, fields_of, methods_of}
use Rattle.class_definition.specs.LinkFault.{has_equal, twice, at_class, is_twice, twice_fault}
use Rattle.translate_classes_laws.specs.Distinct.{HasDistinctMembers}

-- each of the classes has another name than all of these
abbrev AreNew : List (List ℕ) → List Class → Type 0
AreNew before cs = AllByRecursion (λ (c : Class). list_any (same_text (own_name c)) before ≡ false) cs

none-before : (cs : List Class) → AreNew [] cs
none-before [] = tt
none-before (c ∷ cs) = (refl, none-before cs)

one-more : (name : List ℕ) (before : List (List ℕ)) (cs : List Class) → AllByRecursion (λ y. same_text name y ≡ false) (map own_name cs) → AreNew before cs → AreNew (name ∷ before) cs
one-more name before [] other new = tt
one-more name before (c ∷ cs) other new =
    (or_from (same_text (own_name c) name) (list_any (same_text (own_name c)) before) (nat_list_eq_equiv.symm (own_name c) name ∙ other.0) new.0, one-more name before cs other.1 new.1)

once : (before : List (List ℕ)) (number : ℕ) (cs : List Class) → AreNew before cs → IsDistinct same_text (map own_name cs) → AllByRecursion (λ name. is_known name ≡ false) (map own_name cs)
    → AllByRecursion HasDistinctMembers cs → twice_fault before number cs ≡ None
once before number [] new distinct unknown members = refl
once before number (c ∷ cs) new distinct unknown members =
    let named = list_any (same_text (own_name c)) before in
    let fine : is_twice before c ≡ false =
    or_from (named || is_known (own_name c) || has_equal (fields_of c)) (has_equal (methods_of c))
    (or_from (named || is_known (own_name c)) (has_equal (fields_of c)) (or_from named (is_known (own_name c)) new.0 unknown.0) members.0.fields) members.0.methods in
    ap (λ b. cond b (at_class twice number) (twice_fault (own_name c ∷ before) (suc number) cs)) fine
    ∙ once (own_name c ∷ before) (suc number) cs (one-more (own_name c) before cs (IsDistinct-head same_text (own_name c) (map own_name cs) distinct) new.1)
    (IsDistinct-tail same_text (own_name c) (map own_name cs) distinct) unknown.1 members.1

each : {X : Type 0} (P : X → Type 0) (xs : List X) → All P xs → AllByRecursion P xs
each P [] all = tt
each P (x ∷ xs) all = (all 0 x (omega arith), each P xs (λ k d h. all (suc k) d (omega arith)))

pub nothing-twice : (cs : List Class) → IsDistinct same_text (map own_name cs) → All (λ name. is_known name ≡ false) (map own_name cs) → All HasDistinctMembers cs → twice_fault [] 0 cs ≡ None
nothing-twice cs distinct unknown members =
    once [] 0 cs (none-before cs) distinct (each (λ name. is_known name ≡ false) (map own_name cs) unknown) (each HasDistinctMembers cs members)
