-- The types of parameters, one after the other, and by slots.
use Rattle.std.proofs.Common.{◌≡◌, ℕ, suc, ◌-◌, true, false, List, [], ◌∷◌, ◌++◌, map, Option, Some, None, unwrap_or, refl, sym, ap, ◌∙◌, append_assoc, append-nil}
use Rattle.std.specs.Prelude.{◌==◌, if◌then◌else◌, slice_get, option_map}
use Rattle.std.specs.Option.{option_and_then}
use Rattle.std.proofs.lemmas.Option.{slice_get-map}
use Rattle.class_definition.specs.declared.class.Class.{Class}
use Rattle.class_definition.specs.declared.entry.Entry.{Entry}
use Rattle.class_definition.specs.declared.entry.Entry.TheVariants.{Utf8, Integer, Long, LongRest, ClassName, Text, FieldRef, MethodRef, NameAnd}
use Rattle.class_definition.specs.NameGrammar.{after_field}
use Rattle.class_definition.specs.PoolEntries.{utf8_of}
use Rattle.class_definition.specs.MemberNames.{slot_text}
use Rattle.jvm_definition.specs.declared.kind.Kind.{Kind}
use Rattle.class_definition.specs.Linking.{front_kind, then_kinds, parameters_from, parameters_of}
use Rattle.jvm_link.specs.Parameters.{entry_parameters, parameters_at}

pub kinds_more : (k n : ℕ) (kinds made : List Kind) (rest behind : List ℕ) (total : List Kind) → k ≡ suc n → after_field rest ≡ Some behind → kinds ++ parameters_from k rest ≡ total
    → made ≡ kinds ++ front_kind rest ∷ [] → made ++ parameters_from n behind ≡ total
unfolding parameters_from
kinds_more k n kinds made rest behind total e f so_far more =
    let one : parameters_from (suc n) rest ≡ front_kind rest ∷ parameters_from n behind = ap (then_kinds (parameters_from n) (front_kind rest)) f in
    ap (λ (ks : List Kind). ks ++ parameters_from n behind) more ∙ append_assoc kinds (front_kind rest ∷ []) (parameters_from n behind)
    ∙ ap (λ (ks : List Kind). kinds ++ ks) (sym one) ∙ ap (λ m. kinds ++ parameters_from m rest) (sym e) ∙ so_far

pub kinds_end : (k n : ℕ) (kinds : List Kind) (rest : List ℕ) (total : List Kind) → k ≡ suc n → after_field rest ≡ None → kinds ++ parameters_from k rest ≡ total → kinds ≡ total
unfolding parameters_from
kinds_end k n kinds rest total e f so_far =
    let one : parameters_from (suc n) rest ≡ [] = ap (then_kinds (parameters_from n) (front_kind rest)) f in
    sym (append-nil kinds) ∙ ap (λ (ks : List Kind). kinds ++ ks) (sym one) ∙ ap (λ m. kinds ++ parameters_from m rest) (sym e) ∙ so_far

pub kinds_done : (k : ℕ) (kinds : List Kind) (rest : List ℕ) (total : List Kind) → k ≡ 0 → kinds ++ parameters_from k rest ≡ total → kinds ≡ total
unfolding parameters_from
kinds_done k kinds rest total e so_far = sym (append-nil kinds) ∙ ap (λ m. kinds ++ parameters_from m rest) (sym e) ∙ so_far

-- ---- the parameters of a slot are those of the text there

there : (o : Option Entry) → unwrap_or (option_map entry_parameters o) [] ≡ parameters_of (unwrap_or (option_and_then utf8_of o) [])
there None = refl
there (Some (Utf8 x)) = refl
there (Some (Integer x)) = refl
there (Some (Long x)) = refl
there (Some LongRest) = refl
there (Some (ClassName x)) = refl
there (Some (Text x)) = refl
there (Some (FieldRef x y)) = refl
there (Some (MethodRef x y)) = refl
there (Some (NameAnd x y)) = refl

in_place : (pool : List Entry) (k : ℕ) → unwrap_or (slice_get (map entry_parameters pool) k) [] ≡ parameters_of (unwrap_or (option_and_then utf8_of (slice_get pool k)) [])
in_place pool k = rw (slice_get-map entry_parameters pool k) (there (slice_get pool k))

in_slot : (pool : List Entry) (n : ℕ) → parameters_at (map entry_parameters pool) n
    ≡ parameters_of (unwrap_or (option_and_then utf8_of (if n == 0 then None else slice_get pool (n - 1))) [])
in_slot pool n =
    elim (n == 0) as (λ v. (if v then [] else unwrap_or (slice_get (map entry_parameters pool) (n - 1)) [])
    ≡ parameters_of (unwrap_or (option_and_then utf8_of (if v then None else slice_get pool (n - 1))) [])) [ true ↦ refl | false ↦ in_place pool (n - 1) ]

pub parameters_are : (c : Class) (parameters : List (List Kind)) (n : ℕ) → parameters ≡ map entry_parameters c.pool
    → parameters_at parameters n ≡ parameters_of (slot_text c n)
parameters_are c parameters n same = rw same (in_slot c.pool n)
