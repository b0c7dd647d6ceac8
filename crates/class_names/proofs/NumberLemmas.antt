-- Texts and their numbers.
use Rattle.std.proofs.Common.{◌≡◌, ℕ, zero, suc, ◌+◌, ◌-◌, ◌<◌, Bool, true, false, eqb, List, [], ◌∷◌, ◌++◌, length, get_or, take, map, Some, None, refl, sym, ap, ◌∙◌, subst, arith, slice_get}
use Rattle.std.specs.List.{AllZip}
use Rattle.std.specs.Cmp.Lexicographic.{pointwise}
use Rattle.std.specs.Prelude.{nat_eq, slice_index, if◌then◌else◌, unwrap_or, option_and_then}
use Rattle.class_definition.specs.PoolEntries.{utf8_of}
use Rattle.class_definition.specs.PoolChecks.{text_at}
use Rattle.std.proofs.Common.{inl, inr}
use Rattle.std.proofs.lemmas.Option.{get_or_from_slice_get}
use Rattle.class_definition.specs.declared.entry.Entry.TheVariants.{Utf8, Integer, Long, LongRest, ClassName, Text, FieldRef, MethodRef, NameAnd}
use Rattle.std.proofs.lemmas.List.{map-append, take_more}
use Rattle.std.proofs.lemmas.Bool.{eqb-true, eq-eqb, cases_order, true≢false}
use Rattle.std.proofs.lemmas.Map.Keys.{apart_from_distinct}
use Rattle.std.proofs.lemmas.Slice.Eq.{bytes_eq-Decides}
use Rattle.class_definition.specs.declared.entry.Entry.{Entry}
use Rattle.class_definition.specs.NameGrammar.{same_text}
use Rattle.class_names.proofs.PlaceLemmas.{AllZip-append}
use Rattle.class_names.specs.Numbers.{IsNumber, AreTexts, Keeps, entry_text, number_at}

pub same_text-refl : (t : List ℕ) → same_text t t ≡ true
same_text-refl t = (bytes_eq-Decides t t).1 refl

length_from_slice_get : (texts : List (List ℕ)) (n : ℕ) (t : List ℕ) → IsNumber texts n t → n < length texts
length_from_slice_get [] n t h = absurd cc
length_from_slice_get (u ∷ us) zero t h = omega arith
length_from_slice_get (u ∷ us) (suc n) t h = omega (arith, length_from_slice_get us n t h)

-- numbers stay numbers among more texts
pub AllZip-kept : (old new : List (List ℕ)) → Keeps old new → (ns : List ℕ) (ts : List (List ℕ)) → AllZip (IsNumber old) ns ts → AllZip (IsNumber new) ns ts
AllZip-kept old new keeps [] [] are = tt
AllZip-kept old new keeps [] (t ∷ ts) are = are
AllZip-kept old new keeps (n ∷ ns) [] are = are
AllZip-kept old new keeps (n ∷ ns) (t ∷ ts) are = (keeps n t are.0, AllZip-kept old new keeps ns ts are.1)

pub map-more : {A B : Type 0} (f : A → B) (xs : List A) (i : ℕ) (d : A) → i < length xs → map f (take (i + 1) xs) ≡ map f (take i xs) ++ f (get_or xs i d) ∷ []
map-more f xs i d h = ap (map f) (take_more xs i d h) ∙ map-append f (take i xs) (get_or xs i d ∷ [])

-- one more entry's number
pub numbers_more : (old new : List (List ℕ)) → Keeps old new → (es : List Entry) (i n : ℕ) (e : Entry) (ns ms : List ℕ) → i < length es → e ≡ get_or es i e
    → AllZip (IsNumber old) ns (map entry_text (take i es)) → IsNumber new n (entry_text e) → ms ≡ ns ++ n ∷ [] → AllZip (IsNumber new) ms (map entry_text (take (i + 1) es))
numbers_more old new keeps es i n e ns ms h is so_far here made =
    let kept = AllZip-kept old new keeps ns (map entry_text (take i es)) so_far in
    let all : AllZip (IsNumber new) (ns ++ n ∷ []) (map entry_text (take i es) ++ entry_text e ∷ []) = AllZip-append (IsNumber new) ns (n ∷ []) (map entry_text (take i es)) (entry_text e ∷ []) kept (here, tt) in
    let last : entry_text e ≡ entry_text (get_or es i e) = ap entry_text is in
    let texts : map entry_text (take i es) ++ entry_text e ∷ [] ≡ map entry_text (take (i + 1) es) =
    ap (λ t. map entry_text (take i es) ++ t ∷ []) last ∙ sym (map-more entry_text es i e h) in
    let P : List (List ℕ) → Type 0 = λ ts. AllZip (IsNumber new) (ns ++ n ∷ []) ts in
    let Q : List ℕ → Type 0 = λ ks. AllZip (IsNumber new) ks (map entry_text (take (i + 1) es)) in
    subst Q (sym made) (subst P texts all)

text_or : (texts : List (List ℕ)) (n : ℕ) (e : Entry) → IsNumber texts n (entry_text e) → IsNumber texts n (unwrap_or (utf8_of e) [])
text_or texts n (Utf8 t) h = h
text_or texts n (Integer z) h = h
text_or texts n (Long z) h = h
text_or texts n LongRest h = h
text_or texts n (ClassName a) h = h
text_or texts n (Text a) h = h
text_or texts n (FieldRef a b) h = h
text_or texts n (MethodRef a b) h = h
text_or texts n (NameAnd a b) h = h

-- the number in a slot is that of its text
number_in : (texts : List (List ℕ)) → AreTexts texts → (ns : List ℕ) (es : List Entry) → AllZip (IsNumber texts) ns (map entry_text es) → (i : ℕ)
    → IsNumber texts (slice_index ns i) (unwrap_or (option_and_then utf8_of (slice_get es i)) [])
number_in texts are [] [] zip i = are.empty
number_in texts are [] (e ∷ es) zip i = absurd zip
number_in texts are (n ∷ ns) [] zip i = absurd zip
number_in texts are (n ∷ ns) (e ∷ es) zip zero = text_or texts n e zip.0
number_in texts are (n ∷ ns) (e ∷ es) zip (suc i) = number_in texts are ns es zip.1 i

-- one text has one number
same_place : (texts : List (List ℕ)) (n m : ℕ) (t : List ℕ) → AreTexts texts → n < m → IsNumber texts n t → IsNumber texts m t → ⊥
same_place texts n m t are lt a b =
    let x : get_or texts n t ≡ t = get_or_from_slice_get texts n t t a in
    let y : get_or texts m t ≡ t = get_or_from_slice_get texts m t t b in
    let within : m < length texts = length_from_slice_get texts m t b in
    let apart : same_text (get_or texts n t) (get_or texts m t) ≡ false = apart_from_distinct (pointwise nat_eq) texts n m t are.distinct lt within in
    let same : same_text (get_or texts n t) (get_or texts m t) ≡ true = rw (x, y) (same_text-refl t) in
    true≢false (sym same ∙ apart)

one_number : (texts : List (List ℕ)) → AreTexts texts → (n m : ℕ) (t u : List ℕ) → IsNumber texts n t → IsNumber texts m u → t ≡ u → n ≡ m
one_number texts are n m t u a b e =
    let P : List ℕ → Type 0 = λ v. IsNumber texts n v in
    let a' : IsNumber texts n u = subst P e a in
    elim (cases_order n m) [
      | inl same ↦ same
      | inr (inl lt) ↦ absurd (same_place texts n m u are lt a' b)
      | inr (inr gt) ↦ absurd (same_place texts m n u are gt b a')
    ]

one_text : (texts : List (List ℕ)) (n m : ℕ) (t u : List ℕ) → IsNumber texts n t → IsNumber texts m u → n ≡ m → t ≡ u
one_text texts n m t u a b e =
    let P : ℕ → Type 0 = λ k. IsNumber texts k t in
    let a' : IsNumber texts m t = subst P e a in
    let both : Some t ≡ Some u = sym a' ∙ b in
    cc

-- numbers are the same where their texts are
pub same_number : (texts : List (List ℕ)) → AreTexts texts → (n m : ℕ) (t u : List ℕ) → IsNumber texts n t → IsNumber texts m u → nat_eq n m ≡ same_text t u
same_number texts are n m t u a b = by (nat_eq n m) refl (same_text t u) refl
  where
    by : (x : Bool) → nat_eq n m ≡ x → (y : Bool) → same_text t u ≡ y → nat_eq n m ≡ same_text t u
    by true e y f = e ∙ sym ((bytes_eq-Decides t u).1 (one_text texts n m t u a b (eqb-true n m e)))
    by false e true f = absurd (true≢false (sym (eq-eqb n m (one_number texts are n m t u a b ((bytes_eq-Decides t u).0 f))) ∙ e))
    by false e false f = e ∙ sym f

-- ---- the table of a class

-- the number in a slot is that of the text there
pub numbered : (texts : List (List ℕ)) → AreTexts texts → (ns : List ℕ) (pool : List Entry) → AllZip (IsNumber texts) ns (map entry_text pool) → (slot : ℕ)
    → IsNumber texts (number_at ns slot) (unwrap_or (text_at pool slot) [])
numbered texts are ns pool zip slot = by (eqb slot 0)
  where
    by : (b : Bool) → IsNumber texts (if b then 0 else slice_index ns (slot - 1)) (unwrap_or (option_and_then utf8_of (if b then None else slice_get pool (slot - 1))) [])
    by true = are.empty
    by false = number_in texts are ns pool zip (slot - 1)

-- the table that was made of the pool is that of the class
pub numbered_same : (texts : List (List ℕ)) → AreTexts texts → (ns ms : List ℕ) (pool entries : List Entry) → ms ≡ ns → pool ≡ entries → AllZip (IsNumber texts) ns (map entry_text pool) → (slot : ℕ)
    → IsNumber texts (number_at ms slot) (unwrap_or (text_at entries slot) [])
numbered_same texts are ns ms pool entries e f zip slot =
    let P : List ℕ → Type 0 = λ ks. IsNumber texts (number_at ks slot) (unwrap_or (text_at entries slot) []) in
    let Q : List Entry → Type 0 = λ es. IsNumber texts (number_at ns slot) (unwrap_or (text_at es slot) []) in
    subst P (sym e) (subst Q f (numbered texts are ns pool zip slot))
