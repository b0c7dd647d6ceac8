-- Texts and their numbers.
use Rattle.std.proofs.Common.{◌≡◌, ℕ, zero, suc, ◌+◌, ◌-◌, ◌<◌, ◌≤◌, Bool, true, false, cond, not, ◌&&◌, ◌==◌, eqb, List, [], ◌∷◌, ◌++◌, length, drop, take, get_or, reverse, slice_get, Some, refl, sym, ap, ◌∙◌, subst, arith, inl, inr, bytes_eq, append-nil}
use Rattle.std.specs.Prelude.{nat_eq}
use Rattle.std.specs.List.{AllZip, list_any, prefix_len}
use Rattle.std.proofs.lemmas.Bool.{and_parts, cases_order, eqb-true, eq-eqb, true≢false}
use Rattle.std.proofs.lemmas.List.{drop-drop, drop_all, reverse-append, take-append-drop}
use Rattle.std.proofs.lemmas.Map.Keys.{apart_from_distinct}
use Rattle.std.proofs.lemmas.Option.{get_or_from_slice_get, slice_get_within}
use Rattle.std.proofs.lemmas.Slice.Eq.{bytes_eq-Decides}
use Rattle.indexmap.specs.IndexSet.{insert_key}
use Rattle.obj_linker.specs.declared.letter.Letter.{Letter}
use Rattle.obj_linker.specs.Texts.{AreApart, IsNumber, IsNumberWith, Keeps, letter, same_letter, texts_within, up_to_zero}

-- ---- more letters

get_more : (xs ys : List Letter) (i : ℕ) (l : Letter) → slice_get xs i ≡ Some l → slice_get (xs ++ ys) i ≡ Some l
get_more [] ys i l h = absurd (cc)
get_more (x ∷ xs) ys zero l h = h
get_more (x ∷ xs) ys (suc i) l h = get_more xs ys i l h

longer_keeps : (xs ys : List Letter) → Keeps xs (xs ++ ys)
longer_keeps xs ys n [] h = h
longer_keeps xs ys n (c ∷ cs) h = (
  h.0,
  h.1,
  h.2,
  get_more xs ys h.0 (letter c h.1) h.3,
  longer_keeps xs ys h.1 cs h.4,
)

-- a letter more leaves each text its number
pub inserted_keeps : (old new : List Letter) (l : Letter) → new ≡ insert_key same_letter old l → Keeps old new
inserted_keeps old new l is = subst (λ ks. Keeps old ks) (sym is) (by (list_any (same_letter l) old))
  where
    by : (t : Bool) → Keeps old (cond t old (old ++ l ∷ []))
    by true = λ n text h. h
    by false = longer_keeps old (l ∷ [])

same_from : (k l : Letter) → same_letter k l ≡ true → k ≡ l
same_from k l h =
    let p = and_parts (eqb k.byte l.byte) (eqb k.rest l.rest) h in
    let byte = eqb-true k.byte l.byte p.0 in
    let rest = eqb-true k.rest l.rest p.1 in
    λ i. record { byte = byte i; rest = rest i }

-- the number of a text with a byte before it
pub before_is : (old new : List Letter) (byte rest place : ℕ) (l : Letter) → Keeps old new → slice_get new place ≡ Some l
    → same_letter (letter byte rest) l ≡ true → (text : List ℕ) → IsNumber old rest text → IsNumber new (place + 1) (byte ∷ text)
before_is old new byte rest place l keeps at is text h = (
  place,
  rest,
  refl,
  at ∙ ap (λ k. Some k) (sym (same_from (letter byte rest) l is)),
  keeps rest text h,
)

-- ---- the same number where the texts are the same

none_is_some : {P : Type 0} (n place : ℕ) → n ≡ 0 → n ≡ place + 1 → P
none_is_some n place a b = let no : ⊥ = omega (arith, a, b) in absurd no

pub one_text : (letters : List Letter) (n : ℕ) (t u : List ℕ) → IsNumber letters n t → IsNumber letters n u → t ≡ u
one_text letters n [] [] a b = refl
one_text letters n [] (d ∷ ds) a b = none_is_some n b.0 a b.2
one_text letters n (c ∷ cs) [] a b = none_is_some n a.0 b a.2
one_text letters n (c ∷ cs) (d ∷ ds) a b =
    let place : a.0 ≡ b.0 = omega (arith, a.2, b.2) in
    let both : Some (letter c a.1) ≡ Some (letter d b.1) = sym a.3 ∙ ap (slice_get letters) place ∙ b.3 in
    let same : letter c a.1 ≡ letter d b.1 = cc in
    let byte : c ≡ d = ap (λ (l : Letter). l.byte) same in
    let rest : a.1 ≡ b.1 = ap (λ (l : Letter). l.rest) same in
    let others : cs ≡ ds = one_text letters b.1 cs ds (subst (λ r. IsNumber letters r cs) rest a.4) b.4 in
    λ i. byte i ∷ others i

same_self : (l : Letter) → same_letter l l ≡ true
same_self l = λ i. eq-eqb l.byte l.byte refl i && eq-eqb l.rest l.rest refl i

apart_places : (letters : List Letter) (i j : ℕ) (l : Letter) → AreApart letters → i < j → slice_get letters i ≡ Some l → slice_get letters j ≡ Some l → ⊥
apart_places letters i j l apart lt a b =
    let x : get_or letters i l ≡ l = get_or_from_slice_get letters i l l a in
    let y : get_or letters j l ≡ l = get_or_from_slice_get letters j l l b in
    let off : same_letter (get_or letters i l) (get_or letters j l) ≡ false = apart_from_distinct same_letter letters i j l apart lt (slice_get_within letters j l b) in
    let on : same_letter (get_or letters i l) (get_or letters j l) ≡ true = (λ k. same_letter (x k) (y k)) ∙ same_self l in
    true≢false (sym on ∙ off)

one_place : (letters : List Letter) (i j : ℕ) (l : Letter) → AreApart letters → slice_get letters i ≡ Some l → slice_get letters j ≡ Some l → i ≡ j
one_place letters i j l apart a b =
    elim (cases_order i j) [
      | inl same ↦ same
      | inr (inl lt) ↦ absurd (apart_places letters i j l apart lt a b)
      | inr (inr gt) ↦ absurd (apart_places letters j i l apart gt b a)
    ]

pub one_number : (letters : List Letter) → AreApart letters → (n m : ℕ) (t : List ℕ) → IsNumber letters n t → IsNumber letters m t → n ≡ m
one_number letters apart n m [] a b = a ∙ sym b
one_number letters apart n m (c ∷ cs) a b =
    let rest : a.1 ≡ b.1 = one_number letters apart a.1 b.1 cs a.4 b.4 in
    let there : slice_get letters b.0 ≡ Some (letter c a.1) = b.3 ∙ ap (λ r. Some (letter c r)) (sym rest) in
    let place : a.0 ≡ b.0 = one_place letters a.0 b.0 (letter c a.1) apart a.3 there in
    a.2 ∙ ap (λ p. p + 1) place ∙ sym b.2

-- numbers are the same where their texts are
pub same_number : (letters : List Letter) → AreApart letters → (n m : ℕ) (t u : List ℕ) → IsNumber letters n t → IsNumber letters m u
    → (n == m) ≡ bytes_eq t u
same_number letters apart n m t u a b = by (eqb n m) refl (bytes_eq t u) refl
  where
    by : (x : Bool) → eqb n m ≡ x → (y : Bool) → bytes_eq t u ≡ y → eqb n m ≡ bytes_eq t u
    by true e y f =
        let same : n ≡ m = eqb-true n m e in
        e ∙ sym ((bytes_eq-Decides t u).1 (one_text letters m t u (subst (λ k. IsNumber letters k t) same a) b))
    by false e true f =
        let same : t ≡ u = (bytes_eq-Decides t u).0 f in
        absurd (true≢false (sym (eq-eqb n m (one_number letters apart n m u (subst (λ v. IsNumber letters n v) same a) b)) ∙ e))
    by false e false f = e ∙ sym f

-- ---- texts up to a 00

pub up_to_zero_more : (b : ℕ) (bs : List ℕ) → up_to_zero (b ∷ bs) ≡ cond (b == 0) [] (b ∷ up_to_zero bs)
up_to_zero_more b bs = by (b == 0)
  where
    k : ℕ
    k = prefix_len (λ c. not (c == 0)) bs

    by : (t : Bool) → take (cond (not t) (1 + k) 0) (b ∷ bs) ≡ cond t [] (b ∷ take k bs)
    by true = refl
    by false = let next : 1 + k ≡ suc k = omega arith in ap (λ n. take n (b ∷ bs)) next

front_text : (bs later : List ℕ) → up_to_zero later ≡ [] → up_to_zero (bs ++ later) ≡ up_to_zero bs
front_text [] later h = h
front_text (b ∷ bs) later h =
    up_to_zero_more b (bs ++ later) ∙ ap (λ t. cond (b == 0) [] (b ∷ t)) (front_text bs later h) ∙ sym (up_to_zero_more b bs)

-- after a text is nothing more of it
pub after_text : (bs : List ℕ) → up_to_zero (drop (length (up_to_zero bs)) bs) ≡ []
after_text [] = refl
after_text (b ∷ bs) = by (after_text bs) (b == 0) refl
  where
    by : up_to_zero (drop (length (up_to_zero bs)) bs) ≡ [] → (t : Bool) → (b == 0) ≡ t → up_to_zero (drop (length (up_to_zero (b ∷ bs))) (b ∷ bs)) ≡ []
    by others true is =
        let none : up_to_zero (b ∷ bs) ≡ [] = up_to_zero_more b bs ∙ ap (λ t. cond t [] (b ∷ up_to_zero bs)) is in
        ap (λ (l : List ℕ). up_to_zero (drop (length l) (b ∷ bs))) none ∙ none
    by others false is =
        let some : up_to_zero (b ∷ bs) ≡ b ∷ up_to_zero bs = up_to_zero_more b bs ∙ ap (λ t. cond t [] (b ∷ up_to_zero bs)) is in
        ap (λ (l : List ℕ). up_to_zero (drop (length l) (b ∷ bs))) some ∙ others

-- ---- the bytes up to the end of a text

same_drop : (k : ℕ) (bs : List ℕ) → drop (length (take k bs)) bs ≡ drop k bs
same_drop zero bs = refl
same_drop (suc k) [] = refl
same_drop (suc k) (b ∷ bs) = same_drop k bs

pub cut_front : (k : ℕ) (bs : List ℕ) → take k bs ++ drop (length (take k bs)) bs ≡ bs
cut_front k bs = ap (λ l. take k bs ++ l) (same_drop k bs) ∙ take-append-drop k bs

pub cut_ended : (last : ℕ) (bs : List ℕ) → up_to_zero (drop (length (take (last + length (up_to_zero (drop last bs))) bs)) bs) ≡ []
cut_ended last bs =
    let len = length (up_to_zero (drop last bs)) in
    ap up_to_zero (same_drop (last + len) bs ∙ sym (drop-drop len last bs)) ∙ after_text (drop last bs)

-- ---- the numbers of places

pub kept_all : (old new : List Letter) → Keeps old new → (ns : List ℕ) (ts : List (List ℕ)) → AllZip (IsNumber old) ns ts → AllZip (IsNumber new) ns ts
kept_all old new keeps [] [] are = tt
kept_all old new keeps [] (t ∷ ts) are = are
kept_all old new keeps (n ∷ ns) [] are = are
kept_all old new keeps (n ∷ ns) (t ∷ ts) are = (keeps n t are.0, kept_all old new keeps ns ts are.1)

-- one place more, before the others
pub here_more : (old new : List Letter) (byte rest n : ℕ) (later more : List ℕ) → IsNumberWith old new byte rest n
    → IsNumber old rest (up_to_zero later) → more ≡ byte ∷ later → IsNumber new n (up_to_zero more)
here_more old new byte rest n later more with_byte is all =
    subst (λ t. IsNumber new n t) (sym (ap up_to_zero all ∙ up_to_zero_more byte later)) (with_byte (up_to_zero later) is)

pub places_more : (old new : List Letter) (byte n : ℕ) (later more ns ms : List ℕ) → Keeps old new → IsNumber new n (up_to_zero more)
    → AllZip (IsNumber old) (reverse ns) (texts_within later) → ms ≡ ns ++ n ∷ [] → more ≡ byte ∷ later
    → AllZip (IsNumber new) (reverse ms) (texts_within more)
places_more old new byte n later more ns ms keeps here are pushed all =
    let turned : reverse ms ≡ n ∷ reverse ns = ap (λ l. reverse l) pushed ∙ reverse-append ns (n ∷ []) in
    let first : IsNumber new n (up_to_zero (byte ∷ later)) = subst (λ l. IsNumber new n (up_to_zero l)) all here in
    let whole : AllZip (IsNumber new) (n ∷ reverse ns) (texts_within (byte ∷ later)) =
    (first, kept_all old new keeps (reverse ns) (texts_within later) are) in
    subst (λ l. AllZip (IsNumber new) l (texts_within more)) (sym turned)
    (subst (λ l. AllZip (IsNumber new) (n ∷ reverse ns) (texts_within l)) (sym all) whole)

-- what a number at a place is of
pub at_place : (letters : List Letter) (ns bytes later : List ℕ) → AllZip (IsNumber letters) ns (texts_within bytes) → up_to_zero later ≡ []
    → (i n : ℕ) → slice_get ns i ≡ Some n → IsNumber letters n (up_to_zero (drop i (bytes ++ later)))
at_place letters [] bytes later are ended i n at = absurd (cc)
at_place letters (m ∷ ns) [] later are ended zero n at =
    let same : m ≡ n = cc in
    subst (λ k. IsNumber letters k (up_to_zero later)) same (subst (λ t. IsNumber letters m t) (sym ended) are.0)
at_place letters (m ∷ []) [] later are ended (suc i) n at = absurd (cc)
at_place letters (m ∷ k ∷ ns) [] later are ended (suc i) n at = absurd are.1
at_place letters (m ∷ ns) (b ∷ bs) later are ended zero n at =
    let same : m ≡ n = cc in
    subst (λ k. IsNumber letters k (up_to_zero (b ∷ bs ++ later))) same
    (subst (λ t. IsNumber letters m t) (sym (front_text (b ∷ bs) later ended)) are.0)
at_place letters (m ∷ ns) (b ∷ bs) later are ended (suc i) n at = at_place letters ns bs later are.1 ended i n at

-- ---- the first and the last step over bytes

none_behind : (bs : List ℕ) → drop (length bs) bs ≡ []
none_behind bs = drop_all (length bs) bs (omega arith)

pub whole_first : (bs : List ℕ) → bs ++ drop (length bs) bs ≡ bs
whole_first bs = ap (λ l. bs ++ l) (none_behind bs) ∙ append-nil bs

pub here_first : (letters : List Letter) (bs : List ℕ) → IsNumber letters 0 (drop (length bs) bs)
here_first letters bs = subst (λ t. IsNumber letters 0 t) (sym (none_behind bs)) refl

pub ended_first : (bs : List ℕ) → up_to_zero (drop (length bs) bs) ≡ []
ended_first bs = ap up_to_zero (none_behind bs)

pub here_first_up : (letters : List Letter) (bs : List ℕ) → IsNumber letters 0 (up_to_zero (drop (length bs) bs))
here_first_up letters bs = subst (λ t. IsNumber letters 0 t) (sym (ended_first bs)) refl

pub all_first : (letters : List Letter) (bs es ns : List ℕ) → es ≡ [] → ns ≡ es ++ 0 ∷ []
    → AllZip (IsNumber letters) (reverse ns) (texts_within (drop (length bs) bs))
all_first letters bs es ns none pushed =
    let one : reverse ns ≡ 0 ∷ [] = ap (λ l. reverse l) (pushed ∙ ap (λ l. l ++ 0 ∷ []) none) in
    let texts : texts_within (drop (length bs) bs) ≡ [] ∷ [] = ap texts_within (none_behind bs) in
    subst (λ l. AllZip (IsNumber letters) l (texts_within (drop (length bs) bs))) (sym one)
    (subst (λ ts. AllZip (IsNumber letters) (0 ∷ []) ts) (sym texts) (refl, tt))

-- ---- the bytes up to the end of a text that begins at a place

pub name_ended : (last : ℕ) (bs rest name : List ℕ) → rest ≡ drop last bs → name ≡ up_to_zero rest
    → up_to_zero (drop (length (take (last + length name) bs)) bs) ≡ []
name_ended last bs rest name behind is =
    ap (λ (l : List ℕ). up_to_zero (drop (length (take (last + length l) bs)) bs)) (is ∙ ap up_to_zero behind) ∙ cut_ended last bs

pub front_cut : (n : ℕ) (bs front : List ℕ) → front ≡ take n bs → front ++ drop (length front) bs ≡ bs
front_cut n bs front is = ap (λ (l : List ℕ). l ++ drop (length l) bs) is ∙ cut_front n bs

pub front_ended : (last : ℕ) (bs rest name front : List ℕ) → rest ≡ drop last bs → name ≡ up_to_zero rest → front ≡ take (last + length name) bs
    → up_to_zero (drop (length front) bs) ≡ []
front_ended last bs rest name front behind is cut =
    ap (λ (l : List ℕ). up_to_zero (drop (length l) bs)) cut ∙ name_ended last bs rest name behind is
