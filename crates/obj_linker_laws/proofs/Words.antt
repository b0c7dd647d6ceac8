-- Words that are put into an image, one after the other.
use Rattle.std.proofs.Common.{◌≡◌, ℕ, ◌+◌, ◌-◌, ◌<◌, ◌≤◌, true, false, cond, nat_le, List, [], ◌∷◌, ◌++◌, length, take, drop, slice_index, slice_range, refl, ap, ◌∙◌, inl, inr, ◌⊎◌, arith, append_assoc, length-append, length-drop}
use Rattle.std.specs.List.{All}
use Rattle.std.proofs.Math.ListN.{get_or-append}
use Rattle.std.proofs.lemmas.Bool.{cases_Bool, le-leb}
use Rattle.std.proofs.lemmas.Bool.Decides.{nat_tests}
use Rattle.std.proofs.lemmas.List.{drop_at, get_or-append_right, get_or-drop, get_or-take, length-take-le, take_at}
use Rattle.std.proofs.lemmas.List.Elements.{All-head, All-tail}
use Rattle.run_definition.specs.Words.{bytes_of_word, list_with}
use Rattle.obj_linker.specs.declared.site.Site.{Site}
use Rattle.obj_linker.specs.Sites.{changed, new_word, relocated, with_site_word, site_word}

-- ---- one word
with_size : (image : List ℕ) (at word : ℕ) → at + 4 ≤ length image → length (list_with image at (bytes_of_word word)) ≡ length image
with_size image at word inside =
    let front = take at image in
    let bytes = bytes_of_word word in
    omega (
      arith,
      length-append (front ++ bytes) (drop (at + 4) image),
      length-append front bytes,
      length-take-le at image (omega (arith, inside)),
      length-drop (at + 4) image,
      inside,
    )

by_size : (image : List ℕ) (at : ℕ) → ((at + 4 ≤ length image) × (nat_le (at + 4) (length image) ≡ true)) ⊎ (nat_le (at + 4) (length image) ≡ false)
by_size image at = by (cases_Bool (nat_le (at + 4) (length image)))
  where
    held : (n m : ℕ) → nat_le n m ≡ true → n ≤ m
    held n m h = grind (arith, nat_tests)

    by : (nat_le (at + 4) (length image) ≡ true) ⊎ (nat_le (at + 4) (length image) ≡ false)
        → ((at + 4 ≤ length image) × (nat_le (at + 4) (length image) ≡ true)) ⊎ (nat_le (at + 4) (length image) ≡ false)
    by (inl on) = inl (held (at + 4) (length image) on, on)
    by (inr off) = inr off

pub word_size : (image : List ℕ) (at word : ℕ) → length (with_site_word image at word) ≡ length image
word_size image at word = by (by_size image at)
  where
    by : ((at + 4 ≤ length image) × (nat_le (at + 4) (length image) ≡ true)) ⊎ (nat_le (at + 4) (length image) ≡ false)
        → length (with_site_word image at word) ≡ length image
    by (inl h) = ap (λ t. length (cond t (list_with image at (bytes_of_word word)) image)) h.1 ∙ with_size image at word h.0
    by (inr off) = ap (λ t. length (cond t (list_with image at (bytes_of_word word)) image)) off

-- a byte that is not in the word
before_word : (image : List ℕ) (at word x : ℕ) → at + 4 ≤ length image → x < at → slice_index (list_with image at (bytes_of_word word)) x ≡ slice_index image x
before_word image at word x inside lt =
    let front = take at image in
    let bytes = bytes_of_word word in
    let size = length-take-le at image (omega (arith, inside)) in
    get_or-append (front ++ bytes) (drop (at + 4) image) 0 x (omega (arith, length-append front bytes, size, lt))
    ∙ get_or-append front bytes 0 x (omega (arith, size, lt)) ∙ get_or-take at image x 0 lt

behind_word : (image : List ℕ) (at word x : ℕ) → at + 4 ≤ length image → at + 4 ≤ x → slice_index (list_with image at (bytes_of_word word)) x ≡ slice_index image x
behind_word image at word x inside le =
    let front = take at image in
    let bytes = bytes_of_word word in
    let size : length (front ++ bytes) ≡ at + 4 = omega (arith, length-append front bytes, length-take-le at image (omega (arith, inside))) in
    get_or-append_right (front ++ bytes) (drop (at + 4) image) (at + 4) x 0 size le
    ∙ get_or-drop (at + 4) image (x - (at + 4)) 0
    ∙ ap (slice_index image) (let e : at + 4 + (x - (at + 4)) ≡ x = omega (arith, le) in e)

pub other_byte : (image : List ℕ) (at word x : ℕ) → (x < at) ⊎ (at + 4 ≤ x) → slice_index (with_site_word image at word) x ≡ slice_index image x
other_byte image at word x away = by (by_size image at) away
  where
    by : ((at + 4 ≤ length image) × (nat_le (at + 4) (length image) ≡ true)) ⊎ (nat_le (at + 4) (length image) ≡ false) → (x < at) ⊎ (at + 4 ≤ x)
        → slice_index (with_site_word image at word) x ≡ slice_index image x
    by (inl h) (inl lt) = ap (λ t. slice_index (cond t (list_with image at (bytes_of_word word)) image) x) h.1 ∙ before_word image at word x h.0 lt
    by (inl h) (inr le) = ap (λ t. slice_index (cond t (list_with image at (bytes_of_word word)) image) x) h.1 ∙ behind_word image at word x h.0 le
    by (inr off) w = ap (λ t. slice_index (cond t (list_with image at (bytes_of_word word)) image) x) off

-- the word itself
pub word_put : (image : List ℕ) (at word : ℕ) → at + 4 ≤ length image → slice_range (with_site_word image at word) at (at + 4) ≡ bytes_of_word word
word_put image at word inside =
    let front = take at image in
    let bytes = bytes_of_word word in
    let rest = drop (at + 4) image in
    let size = length-take-le at image (omega (arith, inside)) in
    ap (λ t. slice_range (cond t (list_with image at bytes) image) at (at + 4)) (le-leb (at + 4) (length image) inside)
    ∙ ap (λ l. slice_range l at (at + 4)) (append_assoc front bytes rest)
    ∙ ap (take (at + 4 - at)) (drop_at front (bytes ++ rest) at size)
    ∙ ap (λ n. take n (bytes ++ rest)) (let e : at + 4 - at ≡ 4 = omega arith in e)
    ∙ take_at bytes rest 4 refl

-- ---- one site after the other
pub relocated-append : (image : List ℕ) (xs ys : List Site) → relocated image (xs ++ ys) ≡ relocated (relocated image xs) ys
relocated-append image [] ys = refl
relocated-append image (x ∷ xs) ys = relocated-append (changed image x) xs ys

pub relocated_size : (image : List ℕ) (sites : List Site) → length (relocated image sites) ≡ length image
relocated_size image [] = refl
relocated_size image (s ∷ sites) =
    relocated_size (changed image s) sites ∙ word_size image s.at (new_word s (site_word image s.at) (site_word image s.low_at))

-- a byte that is in no site
abbrev pub Away : ℕ → Site → Type 0
Away x s = (x < s.at) ⊎ (s.at + 4 ≤ x)

pub away_from : (image : List ℕ) (x : ℕ) (sites : List Site) → All (Away x) sites → slice_index (relocated image sites) x ≡ slice_index image x
away_from image x [] all = refl
away_from image x (s ∷ sites) all =
    away_from (changed image s) x sites (All-tail (Away x) s sites all)
    ∙ other_byte image s.at (new_word s (site_word image s.at) (site_word image s.low_at)) x (All-head (Away x) s sites all)
