-- What the words of sites are.
use Rattle.std.proofs.Common.{◌≡◌, ℕ, suc, zero, ◌+◌, ◌-◌, ◌%◌, ◌<◌, ◌≤◌, true, false, cond, ◌&&◌, ◌==◌, List, [], ◌∷◌, length, take, drop, slice_get, slice_index, slice_range, Some, sym, ap, ◌∙◌, inl, inr, ◌⊎◌, arith, length-drop}
use Rattle.std.specs.List.{All}
use Rattle.std.proofs.lemmas.Bool.{cases_lt, le-leb}
use Rattle.std.proofs.lemmas.Bool.Decides.{nat_tests}
use Rattle.std.proofs.lemmas.List.{ext_get_or, get_or-drop, get_or-take, length-take-le, take-append-drop}
use Rattle.std.proofs.lemmas.List.Elements.{All-drop, All-take}
use Rattle.run_definition.specs.Words.{bytes_of_word, word_of_bytes, word_of_list}
use Rattle.run_definition.specs.declared.order.Order.TheVariants.{Big}
use Rattle.obj_reader.specs.declared.relocation.Relocation.{Relocation}
use Rattle.obj_reader.specs.declared.section.Section.{Section}
use Rattle.obj_reader.specs.declared.symbol.Symbol.{Symbol}
use Rattle.obj_reader.specs.Sections.{has_bytes, is_placed}
use Rattle.obj_linker.specs.declared.site.Site.{Site}
use Rattle.obj_linker.specs.Image.{linked_bytes}
use Rattle.obj_linker.specs.Layout.{is_too_large}
use Rattle.obj_linker.specs.Link.{all_sites}
use Rattle.obj_linker.specs.Names.{object_bytes}
use Rattle.obj_linker.specs.Sites.{changed, new_word, relocated, site_word}
use Rattle.obj_linker_laws.specs.Held.{IsUntouched, byte_place, is_at, own_word}
use Rattle.obj_linker_laws.proofs.Facts.{Inside, Sited}
use Rattle.obj_linker_laws.proofs.Images.{stands}
use Rattle.obj_linker_laws.proofs.Lists.{all_both}
use Rattle.obj_linker_laws.proofs.Sites.{Outside, away, first_away, later_away, none_any}
use Rattle.obj_linker_laws.proofs.Words.{away_from, relocated-append, relocated_size, word_put, word_size}

-- ---- words that other relocations are for lie outside
-- of words at multiples of 4, another one lies outside
other_word : (a k m : ℕ) → a % 4 ≡ 0 → k % 4 ≡ 0 → (a ≡ k → ⊥) → m < 4 → (k + m < a) ⊎ (a + 4 ≤ k + m)
other_word a k m even_a even other small = by (cases_lt k a)
  where
    by : (k < a) ⊎ (a ≤ k) → (k + m < a) ⊎ (a + 4 ≤ k + m)
    by (inl lt) = inl (omega (arith, lt, even_a, even, small))
    by (inr le) = inr (omega (arith, le, even_a, even, other))

untouched : (all : List Section) (i k m : ℕ) (r : Relocation) → k % 4 ≡ 0 → m < 4 → is_at i k r ≡ false → Sited all r → Outside i (k + m) r
untouched all i k m r even small not_at sited e =
    other_word r.r_offset k m sited.3 even (λ same. both r.section r.r_offset e same not_at) small
  where
    both : (a b : ℕ) → a ≡ i → b ≡ k → (a == i && b == k) ≡ false → ⊥
    both a b x y h = grind (arith, nat_tests)

all_untouched : (all : List Section) (i k m : ℕ) (rs : List Relocation) → k % 4 ≡ 0 → m < 4 → IsUntouched i k rs → All (Sited all) rs → All (Outside i (k + m)) rs
all_untouched all i k m rs even small free sited =
    all_both (λ r. is_at i k r ≡ false) (Sited all) (Outside i (k + m)) rs (λ r h s. untouched all i k m r even small h s) (none_any (is_at i k) rs free) sited

-- ---- a word of the image
word_at : (image : List ℕ) (at : ℕ) → at + 4 ≤ length image → site_word image at ≡ word_of_list Big image at
word_at image at inside = ap (λ t. cond t (word_of_list Big image at) 0) (le-leb (at + 4) (length image) inside)

same_word : (xs ys : List ℕ) (a b : ℕ) → ((m : ℕ) → m < 4 → slice_index xs (a + m) ≡ slice_index ys (b + m)) → word_of_list Big xs a ≡ word_of_list Big ys b
same_word xs ys a b each =
    let first : slice_index xs a ≡ slice_index ys b =
    ap (slice_index xs) (let e : a ≡ a + 0 = omega arith in e) ∙ each 0 (omega arith) ∙ ap (slice_index ys) (let e : b + 0 ≡ b = omega arith in e) in
    λ i. word_of_bytes (first i) (each 1 (omega arith) i) (each 2 (omega arith) i) (each 3 (omega arith) i)

-- what stands in an image before a relocation is applied
abbrev pub Before : List (List ℕ) → List Section → List Symbol → List Relocation → ℕ → List ℕ
Before files all symbols rs j = relocated (linked_bytes files all) (take j (all_sites files all symbols rs))

-- the word of a section that no relocation so far was for
pub own_before : (files : List (List ℕ)) (all : List Section) (symbols : List Symbol) (rs : List Relocation) (j i k : ℕ) (s : Section)
    → All (Inside files) all → is_too_large all ≡ false → slice_get all i ≡ Some s → (is_placed s && has_bytes s) ≡ true
    → All (Sited all) rs → k % 4 ≡ 0 → k + 4 ≤ s.sh_size → IsUntouched i k (take j rs)
    → site_word (Before files all symbols rs j) (byte_place all i k) ≡ own_word files s k
own_before files all symbols rs j i k s inside small at bytes sited even within free =
    let there = stands files all i s inside small at bytes in
    let start = there.0 in
    let image = linked_bytes files all in
    let sites = take j (all_sites files all symbols rs) in
    let before = relocated image sites in
    let place : byte_place all i k ≡ start + k = there.1.range.each k (omega (arith, within)) in
    let size = relocated_size image sites in
    let each = λ (m : ℕ) (lt : m < 4).
    let outside = all_untouched all i k m (take j rs) even lt free (All-take (Sited all) j rs sited) in
    let far = away files all i (k + m) start s (take j rs) inside small at bytes there.1 (omega (arith, within, lt)) (All-take (Sited all) j rs sited) outside in
    ap (slice_index before) (let e : byte_place all i k + m ≡ start + (k + m) = omega (arith, place) in e)
    ∙ away_from image (start + (k + m)) sites (first_away files all symbols (start + (k + m)) j rs far)
    ∙ there.1.bytes (k + m) (omega (arith, within, lt))
    ∙ ap (slice_index (object_bytes files s.object)) (let e : s.sh_offset + (k + m) ≡ s.sh_offset + k + m = omega arith in e) in
    word_at before (byte_place all i k) (omega (arith, place, size, there.1.range.short, within))
    ∙ same_word before (object_bytes files s.object) (byte_place all i k) (s.sh_offset + k) each

-- ---- the word that a site makes
get_drop : {X : Type 0} (xs : List X) (j : ℕ) (x : X) → slice_get xs j ≡ Some x → drop j xs ≡ x ∷ drop (j + 1) xs
get_drop [] j x at = absurd (cc)
get_drop (y ∷ xs) zero x at = let same : y ≡ x = cc in ap (λ z. z ∷ xs) same
get_drop (y ∷ xs) (suc j) x at = get_drop xs j x at ∙ ap (λ n. x ∷ drop n (y ∷ xs)) (let e : suc (j + 1) ≡ suc j + 1 = omega arith in e)

-- the sites before a site, the site, and those behind it
divided : (image : List ℕ) (sites : List Site) (j : ℕ) (s : Site) → slice_get sites j ≡ Some s
    → relocated image sites ≡ relocated (changed (relocated image (take j sites)) s) (drop (j + 1) sites)
divided image sites j s at =
    ap (relocated image) (sym (take-append-drop j sites)) ∙ relocated-append image (take j sites) (drop j sites)
    ∙ ap (relocated (relocated image (take j sites))) (get_drop sites j s at)

range_same : (xs ys : List ℕ) (at : ℕ) → at + 4 ≤ length xs → at + 4 ≤ length ys → ((m : ℕ) → m < 4 → slice_index xs (at + m) ≡ slice_index ys (at + m))
    → slice_range xs at (at + 4) ≡ slice_range ys at (at + 4)
range_same xs ys at long long' each =
    let n = at + 4 - at in
    let four : n ≡ 4 = omega arith in
    let a = length-take-le n (drop at xs) (omega (arith, length-drop at xs, long)) in
    let b = length-take-le n (drop at ys) (omega (arith, length-drop at ys, long')) in
    ext_get_or 0 (take n (drop at xs)) (take n (drop at ys)) (omega (arith, a, b))
    (λ m lt.
    let small : m < n = omega (arith, lt, a) in
    get_or-take n (drop at xs) m 0 small ∙ get_or-drop at xs m 0 ∙ each m (omega (arith, small, four))
    ∙ sym (get_or-take n (drop at ys) m 0 small ∙ get_or-drop at ys m 0))

pub last_word : (files : List (List ℕ)) (all : List Section) (symbols : List Symbol) (rs : List Relocation) (j i k : ℕ) (s : Section) (site : Site)
    → All (Inside files) all → is_too_large all ≡ false → slice_get all i ≡ Some s → (is_placed s && has_bytes s) ≡ true
    → All (Sited all) rs → k % 4 ≡ 0 → k + 4 ≤ s.sh_size → slice_get (all_sites files all symbols rs) j ≡ Some site → site.at ≡ byte_place all i k
    → IsUntouched i k (drop (j + 1) rs)
    → slice_range (relocated (linked_bytes files all) (all_sites files all symbols rs)) site.at (site.at + 4)
    ≡ bytes_of_word (new_word site (site_word (Before files all symbols rs j) site.at) (site_word (Before files all symbols rs j) site.low_at))
last_word files all symbols rs j i k s site inside small at bytes sited even within here place free =
    let there = stands files all i s inside small at bytes in
    let start = there.0 in
    let image = linked_bytes files all in
    let sites = all_sites files all symbols rs in
    let before = relocated image (take j sites) in
    let word = new_word site (site_word before site.at) (site_word before site.low_at) in
    let after = changed before site in
    let later = drop (j + 1) sites in
    let is : site.at ≡ start + k = place ∙ there.1.range.each k (omega (arith, within)) in
    let size = relocated_size image (take j sites) in
    let size' = word_size before site.at word in
    let long : site.at + 4 ≤ length before = omega (arith, is, size, there.1.range.short, within) in
    let each = λ (m : ℕ) (lt : m < 4).
    let outside = all_untouched all i k m (drop (j + 1) rs) even lt free (All-drop (Sited all) (j + 1) rs sited) in
    let far = away files all i (k + m) start s (drop (j + 1) rs) inside small at bytes there.1 (omega (arith, within, lt)) (All-drop (Sited all) (j + 1) rs sited) outside in
    let x : site.at + m ≡ start + (k + m) = omega (arith, is) in
    ap (slice_index (relocated after later)) x
    ∙ away_from after (start + (k + m)) later (later_away files all symbols (start + (k + m)) (j + 1) rs far)
    ∙ ap (slice_index after) (sym x) in
    ap (λ l. slice_range l site.at (site.at + 4)) (divided image sites j site here)
    ∙ range_same (relocated after later) after site.at (omega (arith, relocated_size after later, size', long)) (omega (arith, size', long)) each
    ∙ word_put before site.at word long
