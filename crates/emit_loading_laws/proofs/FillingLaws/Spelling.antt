-- The words that texts spell.
use Rattle.std.proofs.Common.{◌≡◌, ℕ, zero, suc, ◌+◌, ◌*◌, ◌/◌, ◌^◌, ◌<◌, List, [], ◌∷◌, ◌++◌, length, slice_get, slice_index, refl, ap, ◌∙◌, arith}
use Rattle.std.proofs.lemmas.List.Elements.{All-head, All-tail}
use Rattle.run_definition.specs.Words.{IsWord}
use Rattle.data_strings.specs.Texts.{group, word_text, page_text}
use Rattle.emit_loading_laws.specs.Texts.{AreWords, joined, int_of_five, int_at}

-- the bits of all five characters
pub five-spell : (v : ℕ) → IsWord v → int_of_five (group v 4) (group v 3) (group v 2) (group v 1) (group v 0) ≡ v
five-spell v word =
    let a : group v 4 ≡ v / 2 ^ 28 = omega arith in
    let b : joined (v / 2 ^ 28) (group v 3) ≡ v / 2 ^ 21 = omega arith in
    let c : joined (v / 2 ^ 21) (group v 2) ≡ v / 2 ^ 14 = omega arith in
    let d : joined (v / 2 ^ 14) (group v 1) ≡ v / 2 ^ 7 = omega arith in
    let e : joined (v / 2 ^ 7) (group v 0) ≡ v = omega arith in
    ap (λ x. int_of_five x (group v 3) (group v 2) (group v 1) (group v 0)) a
    ∙ ap (λ x. joined (joined (joined x (group v 2)) (group v 1)) (group v 0)) b
    ∙ ap (λ x. joined (joined x (group v 1)) (group v 0)) c
    ∙ ap (λ x. joined x (group v 0)) d
    ∙ e

-- what stands behind a front
pub get-behind : (front ys : List ℕ) (j n : ℕ) → n ≡ length front + j → slice_get (front ++ ys) n ≡ slice_get ys j
get-behind [] ys j n e = ap (slice_get ys) (omega (arith, e))
get-behind (x ∷ front) ys j zero e = absurd (omega (arith, e))
get-behind (x ∷ front) ys j (suc n) e = get-behind front ys j n (omega (arith, e))

pub text-long : (given : List ℕ) → length (page_text given) ≡ 5 * length given
text-long [] = refl
text-long (v ∷ given) = let rest = text-long given in omega (arith, rest)

-- the text of more words, five characters on
index-more : (v : ℕ) (text : List ℕ) (k j : ℕ) → slice_index (word_text v ++ text) (5 * suc k + j) ≡ slice_index text (5 * k + j)
index-more v text k j =
    let same : 5 * suc k + j ≡ suc (suc (suc (suc (suc (5 * k + j))))) = omega arith in
    ap (slice_index (word_text v ++ text)) same

pub text-spells : (given : List ℕ) (k : ℕ) → AreWords given → k < length given → int_at (page_text given) (5 * k) ≡ slice_index given k
text-spells [] k words less = absurd (omega (arith, less))
text-spells (v ∷ given) zero words less = five-spell v (All-head IsWord v given words)
text-spells (v ∷ given) (suc k) words less =
    let text = page_text given in
    let rest = text-spells given k (All-tail IsWord v given words) (omega (arith, less)) in
    let first : slice_index (page_text (v ∷ given)) (5 * suc k) ≡ slice_index text (5 * k) = ap (slice_index (word_text v ++ text)) (omega arith) ∙ index-more v text k 0 ∙ ap (slice_index text) (omega arith) in
    simp (first, index-more v text k 1, index-more v text k 2, index-more v text k 3, index-more v text k 4) rest
