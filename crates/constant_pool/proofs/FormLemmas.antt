-- What a text can be is what a look at it would tell.
use Rattle.std.proofs.Common.{◌≡◌, ℕ, ◌-◌, ◌&&◌, Bool, true, false, List, Option, Some, None, refl}
use Rattle.std.specs.Prelude.{◌==◌, ◌||◌, if◌then◌else◌, slice_get, map, option_map}
use Rattle.std.specs.Option.{option_and_then}
use Rattle.std.proofs.lemmas.Option.{slice_get-map}
use Rattle.class_definition.specs.declared.entry.Entry.{Entry}
use Rattle.class_definition.specs.declared.entry.Entry.TheVariants.{Utf8, Integer, Long, LongRest, ClassName, Text, FieldRef, MethodRef, NameAnd}
use Rattle.constant_pool.specs.declared.form.Form.{Form}
use Rattle.class_definition.specs.NameGrammar.{is_member_name, is_class_file_name, is_array_name, is_field_descriptor, is_method_descriptor}
use Rattle.class_definition.specs.PoolEntries.{utf8_of}
use Rattle.class_definition.specs.PoolChecks.{entry_at, text_at, text_fault, pair_fault}
use Rattle.constant_pool.specs.Forms.{form_of, form_of_text, form_at, fault_unless, least_kind}

-- ---- the form in a slot is that of the entry there

joined : (o : Option Entry) → option_and_then (λ form. form) (option_map form_of o) ≡ option_and_then form_of o
joined None = refl
joined (Some e) = refl

in_place : (pool : List Entry) (k : ℕ) → option_and_then (λ form. form) (slice_get (map form_of pool) k) ≡ option_and_then form_of (slice_get pool k)
in_place pool k = rw (slice_get-map form_of pool k) (joined (slice_get pool k))

form_at-map : (pool : List Entry) (n : ℕ) → form_at (map form_of pool) n ≡ option_and_then form_of (entry_at pool n)
form_at-map pool n =
    elim (n == 0) as (λ v. (if v then None else option_and_then (λ form. form) (slice_get (map form_of pool) (n - 1)))
    ≡ option_and_then form_of (if v then None else slice_get pool (n - 1))) [ true ↦ refl | false ↦ in_place pool (n - 1) ]

form_there : (o : Option Entry) → option_and_then form_of o ≡ option_map form_of_text (option_and_then utf8_of o)
form_there None = refl
form_there (Some (Utf8 x)) = refl
form_there (Some (Integer x)) = refl
form_there (Some (Long x)) = refl
form_there (Some LongRest) = refl
form_there (Some (ClassName x)) = refl
form_there (Some (Text x)) = refl
form_there (Some (FieldRef x y)) = refl
form_there (Some (MethodRef x y)) = refl
form_there (Some (NameAnd x y)) = refl

pub form_is : (pool : List Entry) (forms : List (Option Form)) (n : ℕ) → forms ≡ map form_of pool
    → form_at forms n ≡ option_map form_of_text (text_at pool n)
form_is pool forms n same = rw same (rw (form_at-map pool n) (form_there (entry_at pool n)))

-- ---- what is wrong with a text

pub fault_is : (test : Form → Bool) (o : Option (List ℕ)) → fault_unless (option_map test (option_map form_of_text o))
    ≡ text_fault (λ cs. test (form_of_text cs)) o
fault_is test None = refl
fault_is test (Some cs) = refl

-- ---- a name and a descriptor

no_name : (b : Bool) → Some 5 ≡ least_kind (Some 5) (if b then None else Some 6)
no_name true = refl
no_name false = refl

no_descriptor : (a : Bool) → Some 5 ≡ least_kind (if a then None else Some 6) (Some 5)
no_descriptor true = refl
no_descriptor false = refl

both_there : (a b : Bool) → (if a && b then None else Some 6) ≡ least_kind (if a then None else Some 6) (if b then None else Some 6)
both_there true true = refl
both_there true false = refl
both_there false true = refl
both_there false false = refl

pub pair_fault_is : (name descriptor : Option (List ℕ)) → pair_fault name descriptor
    ≡ least_kind (text_fault is_member_name name) (text_fault (λ cs. is_field_descriptor cs || is_method_descriptor cs) descriptor)
pair_fault_is None None = refl
pair_fault_is None (Some d) = no_name (is_field_descriptor d || is_method_descriptor d)
pair_fault_is (Some n) None = no_descriptor (is_member_name n)
pair_fault_is (Some n) (Some d) = both_there (is_member_name n) (is_field_descriptor d || is_method_descriptor d)
