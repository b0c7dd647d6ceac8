-- The sites of relocations, and what is not in them.
use Rattle.std.proofs.Common.{◌≡◌, ℕ, suc, zero, ◌+◌, ◌-◌, ◌<◌, ◌≤◌, Bool, true, false, ◌&&◌, ◌==◌, nat_le, nat_lt, List, [], ◌∷◌, map, take, drop, get_or, slice_get, Option, Some, option_map, refl, sym, ap, ◌∙◌, subst, inl, inr, ◌⊎◌, arith}
use Rattle.std.specs.List.{All, list_any, zip}
use Rattle.std.proofs.lemmas.Bool.{cases_Bool, cases_lt, eqb-false, eqb-true, le-leb}
use Rattle.std.proofs.lemmas.Bool.Decides.{nat_tests}
use Rattle.std.proofs.lemmas.List.{drop-map, take-map}
use Rattle.std.proofs.lemmas.List.Elements.{All-cons, All-head, All-map, All-nil, All-tail}
use Rattle.std.proofs.lemmas.Option.{slice_get-map}
use Rattle.obj_reader.specs.declared.relocation.Relocation.{Relocation}
use Rattle.obj_reader.specs.declared.section.Section.{Section}
use Rattle.obj_reader.specs.declared.symbol.Symbol.{Symbol}
use Rattle.obj_reader.specs.Sections.{has_bytes, is_placed}
use Rattle.obj_linker.specs.declared.meaning.Meaning.{Meaning}
use Rattle.obj_linker.specs.Layout.{is_too_large, places_of, text_end, text_start}
use Rattle.obj_linker.specs.Link.{all_sites, meanings_of}
use Rattle.obj_linker.specs.Pairs.{low_of, lows}
use Rattle.obj_linker.specs.Sites.{site_of, sites_of}
use Rattle.obj_linker_laws.specs.Held.{byte_place, covers}
use Rattle.obj_linker_laws.proofs.Facts.{Inside, Sited}
use Rattle.obj_linker_laws.proofs.Images.{Stands, stand_apart, stands}
use Rattle.obj_linker_laws.proofs.Lists.{and_both, or_neither}
use Rattle.obj_linker_laws.proofs.Words.{Away}

-- ---- the site of a relocation
zip_at : {X Y : Type 0} (xs : List X) (ys : List Y) (j : ℕ) (x : X) (y : Y) → slice_get xs j ≡ Some x → slice_get ys j ≡ Some y
    → slice_get (zip xs ys) j ≡ Some (x, y)
zip_at [] ys j x y at to = absurd (cc)
zip_at (a ∷ xs) [] j x y at to = absurd (cc)
zip_at (a ∷ xs) (b ∷ ys) zero x y at to =
    let first : a ≡ x = cc in
    let second : b ≡ y = cc in
    λ i. Some (first i, second i)
zip_at (a ∷ xs) (b ∷ ys) (suc j) x y at to = zip_at xs ys j x y at to

low_at : (rs : List Relocation) (j : ℕ) (r : Relocation) → slice_get rs j ≡ Some r → slice_get (lows rs) j ≡ Some (low_of r (drop (j + 1) rs))
low_at [] j r at = absurd (cc)
low_at (x ∷ rs) zero r at = let same : x ≡ r = cc in ap (λ (y : Relocation). Some (low_of y rs)) same
low_at (x ∷ rs) (suc j) r at =
    low_at rs j r at ∙ ap (λ n. Some (low_of r (drop n (x ∷ rs)))) (let e : suc (j + 1) ≡ suc j + 1 = omega arith in e)

pub site_at : (files : List (List ℕ)) (sections : List Section) (symbols : List Symbol) (rs : List Relocation) (j : ℕ) (r : Relocation)
    → slice_get rs j ≡ Some r
    → slice_get (all_sites files sections symbols rs) j
    ≡ Some (site_of symbols (meanings_of files symbols) (places_of sections) (text_end sections - text_start) (r, low_of r (drop (j + 1) rs)))
unfolding all_sites sites_of
site_at files sections symbols rs j r at =
    let f = site_of symbols (meanings_of files symbols) (places_of sections) (text_end sections - text_start) in
    slice_get-map f (zip rs (lows rs)) j ∙ ap (option_map f) (zip_at rs (lows rs) j r (low_of r (drop (j + 1) rs)) at (low_at rs j r at))

-- ---- the sites of some of the relocations
zip_none : {X Y : Type 0} (xs : List X) → ◌≡◌ {A = List (X × Y)} (zip xs []) []
zip_none [] = refl
zip_none (x ∷ xs) = refl

drop_zip : {X Y : Type 0} (n : ℕ) (xs : List X) (ys : List Y) → drop n (zip xs ys) ≡ zip (drop n xs) (drop n ys)
drop_zip zero xs ys = refl
drop_zip (suc n) [] ys = refl
drop_zip {X} {Y} (suc n) (x ∷ xs) [] = sym (zip_none {X = X} {Y = Y} (drop n xs))
drop_zip (suc n) (x ∷ xs) (y ∷ ys) = drop_zip n xs ys

take_zip : {X Y : Type 0} (n : ℕ) (xs : List X) (ys : List Y) → take n (zip xs ys) ≡ zip (take n xs) (take n ys)
take_zip zero xs ys = refl
take_zip (suc n) [] ys = refl
take_zip {X} {Y} (suc n) (x ∷ xs) [] = refl
take_zip (suc n) (x ∷ xs) (y ∷ ys) = ap (λ l. (x, y) ∷ l) (take_zip n xs ys)

all_firsts : {X Y : Type 0} (P : X → Type 0) (xs : List X) (ys : List Y) → All P xs → All (λ (z : X × Y). P z.0) (zip xs ys)
all_firsts P [] ys all = All-nil (λ z. P z.0)
all_firsts P (x ∷ xs) [] all = All-nil (λ z. P z.0)
all_firsts P (x ∷ xs) (y ∷ ys) all = All-cons (λ z. P z.0) (x, y) (zip xs ys) (All-head P x xs all) (all_firsts P xs ys (All-tail P x xs all))

-- what the places of relocations are away from
abbrev pub place_of_site : List Section → Relocation → ℕ
place_of_site sections r = byte_place sections r.section r.r_offset

abbrev pub AwayFrom : List Section → ℕ → Relocation → Type 0
AwayFrom sections x r = (x < place_of_site sections r) ⊎ (place_of_site sections r + 4 ≤ x)

some_sites : (symbols : List Symbol) (meanings : List Meaning) (sections : List Section) (x : ℕ) (rs : List Relocation) (ls : List (Option ℕ))
    → All (AwayFrom sections x) rs → All (Away x) (map (site_of symbols meanings (places_of sections) (text_end sections - text_start)) (zip rs ls))
some_sites symbols meanings sections x rs ls all =
    let f = site_of symbols meanings (places_of sections) (text_end sections - text_start) in
    All-map (Away x) f (zip rs ls) (all_firsts (AwayFrom sections x) rs ls all)

pub all_away : (files : List (List ℕ)) (sections : List Section) (symbols : List Symbol) (x : ℕ) (rs : List Relocation)
    → All (AwayFrom sections x) rs → All (Away x) (all_sites files sections symbols rs)
unfolding all_sites sites_of
all_away files sections symbols x rs all = some_sites symbols (meanings_of files symbols) sections x rs (lows rs) all

pub first_away : (files : List (List ℕ)) (sections : List Section) (symbols : List Symbol) (x n : ℕ) (rs : List Relocation)
    → All (AwayFrom sections x) (take n rs) → All (Away x) (take n (all_sites files sections symbols rs))
unfolding all_sites sites_of
first_away files sections symbols x n rs all =
    let f = site_of symbols (meanings_of files symbols) (places_of sections) (text_end sections - text_start) in
    subst (All (Away x)) (sym (take-map f n (zip rs (lows rs)) ∙ ap (map f) (take_zip n rs (lows rs))))
    (some_sites symbols (meanings_of files symbols) sections x (take n rs) (take n (lows rs)) all)

pub later_away : (files : List (List ℕ)) (sections : List Section) (symbols : List Symbol) (x n : ℕ) (rs : List Relocation)
    → All (AwayFrom sections x) (drop n rs) → All (Away x) (drop n (all_sites files sections symbols rs))
unfolding all_sites sites_of
later_away files sections symbols x n rs all =
    let f = site_of symbols (meanings_of files symbols) (places_of sections) (text_end sections - text_start) in
    subst (All (Away x)) (sym (drop-map f n (zip rs (lows rs)) ∙ ap (map f) (drop_zip n rs (lows rs))))
    (some_sites symbols (meanings_of files symbols) sections x (drop n rs) (drop n (lows rs)) all)

-- ---- what a byte of a section is away from
abbrev pub Outside : ℕ → ℕ → Relocation → Type 0
Outside i k r = r.section ≡ i → (k < r.r_offset) ⊎ (r.r_offset + 4 ≤ k)

one_away : (files : List (List ℕ)) (all : List Section) (i k start : ℕ) (s : Section) (r : Relocation) → All (Inside files) all → is_too_large all ≡ false
    → slice_get all i ≡ Some s → (is_placed s && has_bytes s) ≡ true → Stands files all i s start → k < s.sh_size
    → Sited all r → Outside i k r → AwayFrom all (start + k) r
one_away files all i k start s r inside small at bytes own lt sited out = by (cases_Bool (r.section == i))
  where
    t : Section
    t = sited.0

    there : (b : ℕ) × Stands files all r.section t b
    there = stands files all r.section t inside small sited.1 sited.2

    place : place_of_site all r ≡ there.0 + r.r_offset
    place = there.1.range.each r.r_offset (omega (arith, sited.4))

    same_start : r.section ≡ i → there.0 ≡ start
    same_start e =
        let first = there.1.range.each 0 (omega arith) in
        let second = own.range.each 0 (omega arith) in
        omega (arith, first, second, ap (λ n. byte_place all n 0) e)

    inside_one : (k < r.r_offset) ⊎ (r.r_offset + 4 ≤ k) → there.0 ≡ start → AwayFrom all (start + k) r
    inside_one (inl lt) e = inl (omega (arith, lt, place, e))
    inside_one (inr le) e = inr (omega (arith, le, place, e))

    apart_one : (there.0 + t.sh_size ≤ start) ⊎ (start + s.sh_size ≤ there.0) → AwayFrom all (start + k) r
    apart_one (inl le) = inr (omega (arith, le, place, sited.4))
    apart_one (inr le) = inl (omega (arith, le, place, lt))

    by : ((r.section == i) ≡ true) ⊎ ((r.section == i) ≡ false) → AwayFrom all (start + k) r
    by (inl is) = let e = eqb-true r.section i is in inside_one (out e) (same_start e)
    by (inr other) =
        apart_one (stand_apart files all r.section i there.0 start t s small (eqb-false r.section i other) sited.1 at
        (and_both (is_placed t) (has_bytes t) sited.2).0 (and_both (is_placed s) (has_bytes s) bytes).0 there.1 own)

pub away : (files : List (List ℕ)) (all : List Section) (i k start : ℕ) (s : Section) (rs : List Relocation) → All (Inside files) all → is_too_large all ≡ false
    → slice_get all i ≡ Some s → (is_placed s && has_bytes s) ≡ true → Stands files all i s start → k < s.sh_size
    → All (Sited all) rs → All (Outside i k) rs → All (AwayFrom all (start + k)) rs
away files all i k start s rs inside small at bytes own lt sited out n d le =
    one_away files all i k start s (get_or rs n d) inside small at bytes own lt (sited n d le) (out n d le)

-- ---- relocations that do not cover a byte, and those that are not for a word
pub none_any : {X : Type 0} (p : X → Bool) (xs : List X) → list_any p xs ≡ false → All (λ x. p x ≡ false) xs
none_any p [] h = All-nil (λ x. p x ≡ false)
none_any p (x ∷ xs) h =
    let both = or_neither (p x) (list_any p xs) h in All-cons (λ y. p y ≡ false) x xs both.0 (none_any p xs both.1)

not_covered : (i k : ℕ) (r : Relocation) → covers i k r ≡ false → Outside i k r
not_covered i k r h e = split (sym (ap (λ t. t && (nat_le r.r_offset k && nat_lt k (r.r_offset + 4))) (same i r.section e)) ∙ h) (cases_lt k r.r_offset)
  where
    same : (n m : ℕ) → m ≡ n → (m == n) ≡ true
    same n m e = grind arith

    far : (a b : ℕ) → a ≤ b → nat_lt b (a + 4) ≡ false → a + 4 ≤ b
    far a b le h = grind (arith, nat_tests)

    split : (nat_le r.r_offset k && nat_lt k (r.r_offset + 4)) ≡ false → (k < r.r_offset) ⊎ (r.r_offset ≤ k)
        → (k < r.r_offset) ⊎ (r.r_offset + 4 ≤ k)
    split g (inl lt) = inl lt
    split g (inr le) = inr (far r.r_offset k le (sym (ap (λ t. t && nat_lt k (r.r_offset + 4)) (le-leb r.r_offset k le)) ∙ g))

pub all_outside : (i k : ℕ) (rs : List Relocation) → list_any (covers i k) rs ≡ false → All (Outside i k) rs
all_outside i k rs h n d le = not_covered i k (get_or rs n d) (none_any (covers i k) rs h n d le)
