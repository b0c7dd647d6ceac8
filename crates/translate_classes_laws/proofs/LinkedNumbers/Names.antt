-- The names of a translation differ.
use Rattle.std.proofs.Common.{◌≡◌, ℕ, zero, suc, ◌+◌, ◌<◌, ◌≤◌, ◌^◌, Bool, true, false, ◌&&◌, ◌||◌, List, [], ◌∷◌, ◌++◌, map, length, drop, refl, sym, ap, subst, ◌∙◌, append_assoc, append-nil, length-append, arith}
use Rattle.std.specs.Prelude.{codes, decimal, nat_eq}
use Rattle.std.specs.List.{All, AllByRecursion, IsDistinct, list_any, range_with_len}
use Rattle.std.specs.Str.Parse.{AllDigits}
use Rattle.std.proofs.lemmas.Bool.{or_from, or_left, or_right, true≢false}
use Rattle.std.proofs.lemmas.Fmt.{decimal_injective, decimal_is_IsNumeral}
use Rattle.std.proofs.lemmas.Str.Parse.{digit_from_value}
use Rattle.std.proofs.lemmas.List.{append_cancel_left}
use Rattle.std.proofs.lemmas.List.Folds.{list_any-append}
use Rattle.std.proofs.lemmas.Map.Keys.{IsDistinct-cons}
use Rattle.class_definition.specs.NameGrammar.{same_text}
use Rattle.class_definition.specs.MemberNames.{Signature, signature, same_signature, object_name, string_name, host_name, is_known}
use Rattle.emit_layout.specs.ClassNames.{code_class_name, data_class_name, span_name}
use Rattle.translate_classes.specs.Making.{nothing}
use Rattle.translate_classes_laws.specs.Planned.{numbered}
use Rattle.translate_classes_laws.specs.Translated.{class_names, methods_of_code}
use Rattle.translate_classes_laws.proofs.LinkedNumbers.Numbers.{text-other}

-- ---- lists over ranges of numbers

all-range : {X : Type 0} (P : X → Type 0) (f : ℕ → X) (top a n : ℕ) (ys : List X) → a + n ≤ top → ((j : ℕ) → a ≤ j → j < top → P (f j)) → AllByRecursion P ys
    → AllByRecursion P (map f (range_with_len a n) ++ ys)
all-range P f top a zero ys fits each rest = rest
all-range P f top a (suc n) ys fits each rest =
    (each a (omega arith) (omega arith), all-range P f top (a + 1) n ys (omega arith) (λ j low high. each j (omega arith) high) rest)

pub distinct-range : {X : Type 0} (e : X → X → Bool) (f : ℕ → X) (top a n : ℕ) (ys : List X) → a + n ≤ top → ((i j : ℕ) → i < j → j < top → e (f i) (f j) ≡ false)
    → ((i : ℕ) → i < top → AllByRecursion (λ y. e (f i) y ≡ false) ys) → IsDistinct e ys → IsDistinct e (map f (range_with_len a n) ++ ys)
distinct-range e f top a zero ys fits differ apart rest = rest
distinct-range e f top a (suc n) ys fits differ apart rest =
    IsDistinct-cons e (f a) (map f (range_with_len (a + 1) n) ++ ys)
    (all-range (λ y. e (f a) y ≡ false) f top (a + 1) n ys (omega arith) (λ j low high. differ a j (omega arith) high) (apart a (omega arith)))
    (distinct-range e f top (a + 1) n ys (omega arith) differ apart rest)

pub all-index : {X : Type 0} (P : X → Type 0) (xs : List X) → AllByRecursion P xs → All P xs
all-index P [] all k d within = absurd (omega arith)
all-index P (x ∷ xs) all zero d within = all.0
all-index P (x ∷ xs) all (suc k) d within = all-index P xs all.1 k d (omega arith)

-- ---- the names of classes

-- a number begins with a digit
pub no-digit : (n c : ℕ) (cs : List ℕ) → n < 2 ^ 64 → 57 < c → decimal n ≡ c ∷ cs → ⊥
no-digit n c cs high above e = omega (arith, above, digit_from_value c (subst (AllDigits 10) e (decimal_is_IsNumeral n high).0.1).0)

code-differ : (main : List ℕ) (i j : ℕ) → i < j → j < 2 ^ 64 → same_text (code_class_name main i) (code_class_name main j) ≡ false
code-differ main i j less high = text-other (code_class_name main i) (code_class_name main j) (λ e.
    let same : i ≡ j = decimal_injective i j (omega arith) high (append_cancel_left (main ++ codes "_") (decimal i) (decimal j) e) in
    omega arith)

data-differ : (main : List ℕ) (i j : ℕ) → i < j → j < 2 ^ 64 → same_text (data_class_name main i) (data_class_name main j) ≡ false
data-differ main i j less high = text-other (data_class_name main i) (data_class_name main j) (λ e.
    let same : i ≡ j = decimal_injective i j (omega arith) high (append_cancel_left (main ++ codes "_D") (decimal i) (decimal j) e) in
    omega arith)

kinds-differ : (main : List ℕ) (i j : ℕ) → i < 2 ^ 64 → same_text (code_class_name main i) (data_class_name main j) ≡ false
kinds-differ main i j high = text-other (code_class_name main i) (data_class_name main j) (λ e.
    let behind : 95 ∷ decimal i ≡ 95 ∷ 68 ∷ decimal j =
    append_cancel_left main (95 ∷ decimal i) (95 ∷ 68 ∷ decimal j) (sym (append_assoc main (95 ∷ []) (decimal i)) ∙ e ∙ append_assoc main (95 ∷ 68 ∷ []) (decimal j)) in
    no-digit i 68 (decimal j) high (omega arith) (ap (drop 1) behind))

-- the name of the main class is shorter
longer : (main more : List ℕ) (c : ℕ) (cs : List ℕ) → same_text main ((main ++ c ∷ cs) ++ more) ≡ false
longer main more c cs = text-other main ((main ++ c ∷ cs) ++ more) (λ e.
    omega (arith, ap length e, length-append (main ++ c ∷ cs) more, length-append main (c ∷ cs)))

pub names-distinct : (main : List ℕ) (code_classes data_classes : ℕ) → code_classes ≤ 2 ^ 64 → data_classes ≤ 2 ^ 64 → IsDistinct same_text (class_names main code_classes data_classes)
unfolding IsDistinct
names-distinct main code_classes data_classes few_code few_data =
    let datas = map (data_class_name main) (range_with_len 0 data_classes) in
    let none : datas ++ [] ≡ datas = append-nil datas in
    let one : IsDistinct same_text datas = subst (IsDistinct same_text) none
    (distinct-range same_text (data_class_name main) (2 ^ 64) 0 data_classes [] (omega arith) (data-differ main) (λ i high. tt) tt) in
    let across : (i : ℕ) → i < 2 ^ 64 → AllByRecursion (λ y. same_text (code_class_name main i) y ≡ false) datas =
    λ i high. subst (AllByRecursion (λ y. same_text (code_class_name main i) y ≡ false)) none
    (all-range (λ y. same_text (code_class_name main i) y ≡ false) (data_class_name main) (2 ^ 64) 0 data_classes [] (omega arith) (λ j low top. kinds-differ main i j high) tt) in
    let front : AllByRecursion (λ y. same_text main y ≡ false) datas = subst (AllByRecursion (λ y. same_text main y ≡ false)) none
    (all-range (λ y. same_text main y ≡ false) (data_class_name main) (2 ^ 64) 0 data_classes [] (omega arith) (λ j low top. longer main (decimal j) 95 (68 ∷ [])) tt) in
    IsDistinct-cons same_text main (map (code_class_name main) (range_with_len 0 code_classes) ++ datas)
    (all-range (λ y. same_text main y ≡ false) (code_class_name main) (2 ^ 64) 0 code_classes datas (omega arith) (λ j low top. longer main (decimal j) 95 []) front)
    (distinct-range same_text (code_class_name main) (2 ^ 64) 0 code_classes datas (omega arith) (code-differ main) across one)

-- ---- names that are not known

underscored : (main more : List ℕ) (cs : List ℕ) → list_any (nat_eq 95) ((main ++ 95 ∷ cs) ++ more) ≡ true
underscored main more cs =
    list_any-append (nat_eq 95) (main ++ 95 ∷ cs) more
    ∙ or_left (list_any (nat_eq 95) (main ++ 95 ∷ cs)) (list_any (nat_eq 95) more)
    (list_any-append (nat_eq 95) main (95 ∷ cs) ∙ or_right (list_any (nat_eq 95) main) (list_any (nat_eq 95) (95 ∷ cs)) refl)

not-known : (name : List ℕ) → list_any (nat_eq 95) name ≡ true → is_known name ≡ false
not-known name has =
    or_from (same_text name object_name || same_text name string_name) (same_text name host_name)
    (or_from (same_text name object_name) (same_text name string_name) (other object_name refl) (other string_name refl)) (other host_name refl)
  where
    other : (known : List ℕ) → list_any (nat_eq 95) known ≡ false → same_text name known ≡ false
    other known without = text-other name known (λ e. true≢false (sym has ∙ ap (list_any (nat_eq 95)) e ∙ without))

pub names-unknown : (main : List ℕ) (code_classes data_classes : ℕ) → is_known main ≡ false → AllByRecursion (λ name. is_known name ≡ false) (class_names main code_classes data_classes)
names-unknown main code_classes data_classes unknown =
    let datas = map (data_class_name main) (range_with_len 0 data_classes) in
    let none : datas ++ [] ≡ datas = append-nil datas in
    let last : AllByRecursion (λ name. is_known name ≡ false) datas = subst (AllByRecursion (λ name. is_known name ≡ false)) none
    (all-range (λ name. is_known name ≡ false) (data_class_name main) data_classes 0 data_classes [] (omega arith)
    (λ j low top. not-known (data_class_name main j) (underscored main (decimal j) (68 ∷ []))) tt) in (
      unknown,
      all-range (λ name. is_known name ≡ false) (code_class_name main) code_classes 0 code_classes datas (omega arith)
          (λ j low top. not-known (code_class_name main j) (underscored main (decimal j) [])) last,
    )

-- ---- the methods of a class of code

pub other-first : (s t : Signature) → same_text s.name t.name ≡ false → same_signature s t ≡ false
other-first s t e = ap (λ b. b && same_text s.descriptor t.descriptor) e

abbrev span : ℕ → Signature
span = numbered span_name (λ k. nothing)

spans-differ : (i j : ℕ) → i < j → j < 2 ^ 64 → same_signature (span i) (span j) ≡ false
spans-differ i j less high = other-first (span i) (span j) (text-other (span_name i) (span_name j) (λ e.
    let same : i ≡ j = decimal_injective i j (omega arith) high (ap (drop 1) e) in
    omega arith))

span-not-run : (i : ℕ) → same_signature (span i) (signature (codes "run") nothing) ≡ false
span-not-run i = refl

pub code-methods : (spans : ℕ) → spans ≤ 2 ^ 64 → IsDistinct same_signature (methods_of_code spans)
unfolding IsDistinct
code-methods spans few =
    distinct-range same_signature span (2 ^ 64) 0 spans (signature (codes "run") nothing ∷ []) (omega arith) spans-differ (λ i high. (span-not-run i, tt)) (tt, tt)
