-- The pages of a program that is all text.
use Rattle.std.proofs.Common.{◌≡◌, ℕ, zero, suc, ◌+◌, ◌-◌, ◌*◌, ◌/◌, ◌<◌, ◌≤◌, ◌==◌, ◌&&◌, ◌||◌, Bool, true, false, cond, nat_lt, nat_le, max, min, List, [], ◌∷◌, None, option_map, refl, ap, inl, inr, arith}
use Rattle.std.proofs.lemmas.Bool.{cases_Bool, le-ltb}
use Rattle.std.proofs.lemmas.Bool.Decides.{nat_tests}
use Rattle.elf_definition.specs.Check.{least_below}
use Rattle.elf_definition.specs.Content.{is_filled_page}
use Rattle.elf_definition.specs.Pages.{count_below, heap_page, is_segment_page, is_shared, mapped_pages, pages_below}
use Rattle.elf_definition.specs.ImageFault.{data_fault, exceeds, layout_fault, pages_fault}
use Rattle.command_translate.proofs.TextBytes.{text_segment}

-- a test that only numbers from a to b pass
count_within : (test : ℕ → Bool) (a b n : ℕ) → ((p : ℕ) → test p ≡ true → (a ≤ p) × (p < b)) → (count_below test n ≤ n - a) × (count_below test n ≤ b - a)
unfolding count_below
count_within test a b zero only = (omega arith, omega arith)
count_within test a b (suc n) only =
    let before = count_within test a b n only in
    elim (cases_Bool (test n)) [
      | inl on ↦
          let one : ◌≡◌ {A = ℕ} (cond (test n) 1 0) 1 = rw on refl in
          let at = only n on in (omega (arith, before.0, one, at.0), omega (arith, before.0, one, at.0, at.1))
      | inr off ↦
          let none : ◌≡◌ {A = ℕ} (cond (test n) 1 0) 0 = rw off refl in (omega (arith, before.0, none), omega (arith, before.1, none))
    ]

pub none_below : (test : ℕ → Bool) (n : ℕ) → ((k : ℕ) → k < n → test k ≡ false) → least_below test n ≡ None
unfolding least_below
none_below test zero off = refl
none_below test (suc n) off = rw (none_below test n (λ k lt. off k (omega (arith, lt)))) (rw (off n (omega arith)) refl)

pub within_limit : (kind limit number : ℕ) → number ≤ limit → exceeds kind limit number ≡ None
within_limit kind limit number le = rw (le-ltb limit number le) refl

-- the first page behind the text
abbrev pub behind : ℕ → ℕ
behind n = (0x00400000 + n + 4095) / 4096

page_of : (n p : ℕ) → (nat_lt (max 0x00400000 (4096 * p)) (min (0x00400000 + n) (4096 * p + 4096)) || false) ≡ true → (1024 ≤ p) × (p < behind n)
page_of n p on = (grind (arith, nat_tests), grind (arith, nat_tests))

page_within : (n p : ℕ) → is_segment_page (text_segment n ∷ []) p ≡ true → (1024 ≤ p) × (p < behind n)
unfolding is_segment_page
page_within n p on = page_of n p on

first_true : (a b : Bool) → (a && b) ≡ true → a ≡ true
first_true true b on = refl
first_true false b on = on

filled_within : (file : List ℕ) (n p : ℕ) → is_filled_page file (text_segment n ∷ []) p ≡ true → (1024 ≤ p) × (p < behind n)
unfolding is_filled_page
filled_within file n p on = page_within n p (first_true (is_segment_page (text_segment n ∷ []) p) _ on)

pub pages_pass : (n : ℕ) → n ≤ 1572876 → pages_fault (text_segment n ∷ []) 256 64 ≡ None
unfolding mapped_pages
pages_pass n short =
    let few = (count_within (is_segment_page (text_segment n ∷ [])) 1024 (behind n) pages_below (page_within n)).1 in
    within_limit 4 65_536 (mapped_pages (text_segment n ∷ []) 256 64) (omega (arith, few, short))

pub data_passes : (file : List ℕ) (n : ℕ) → n ≤ 1572876 → data_fault file (text_segment n ∷ []) ≡ None
data_passes file n short =
    let few = (count_within (is_filled_page file (text_segment n ∷ [])) 1024 (behind n) pages_below (filled_within file n)).1 in
    within_limit 5 16_384 (count_below (is_filled_page file (text_segment n ∷ [])) pages_below) (omega (arith, few, short))

-- heap, stack and argument page stand behind the text
for_one : (on : Bool) (start page : ℕ) → start ≤ 1409 → (on ≡ true → page < start)
    → ((on && ((nat_le start page && nat_lt page (start + 256)) || (nat_le (0x7ffff - 64) page && nat_lt page 0x7ffff) || page == 0x7ffff))
    || ((nat_le start page && nat_lt page (start + 256)) && ((nat_le (0x7ffff - 64) page && nat_lt page 0x7ffff) || page == 0x7ffff))
    || ((nat_le (0x7ffff - 64) page && nat_lt page 0x7ffff) && page == 0x7ffff)) ≡ false
for_one true start page low within = let lt = within refl in grind (arith, nat_tests)
for_one false start page low within = grind (arith, nat_tests)

pub heap_starts : (n : ℕ) → heap_page (text_segment n ∷ []) ≡ behind n
unfolding heap_page
heap_starts n = grind arith

not_shared : (n page : ℕ) → n ≤ 1572876 → is_shared (text_segment n ∷ []) 256 64 page ≡ false
unfolding is_shared
not_shared n page short =
    let start = heap_starts n in
    for_one (is_segment_page (text_segment n ∷ []) page) (heap_page (text_segment n ∷ [])) page (omega (arith, start, short))
    (λ on. omega (arith, start, (page_within n page on).1))

pub layout_passes : (n : ℕ) → n ≤ 1572876 → layout_fault (text_segment n ∷ []) 256 64 ≡ None
layout_passes n short =
    ap (option_map (λ page. record { kind = 6; number = page; word = 0 }))
    (none_below (is_shared (text_segment n ∷ []) 256 64) pages_below (λ page lt. not_shared n page short))
