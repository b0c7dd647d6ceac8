-- No text of a page's words or of runs of pages is too long for a class file.
use Rattle.std.proofs.Common.{◌≡◌, ℕ, ◌+◌, ◌-◌, ◌*◌, ◌/◌, ◌%◌, ◌<◌, ◌≤◌, ◌^◌, Bool, true, false, List, [], ◌∷◌, length, All, drop, refl, arith, length-append}
use Rattle.std.specs.Prelude.{nat_le, nat_lt, min, if◌then◌else◌, ◌&&◌}
use Rattle.std.proofs.lemmas.List.Elements.{All-head, All-tail, All-take, All-drop}
use Rattle.std.proofs.lemmas.List.{length-take}
use Rattle.elf_image_parts.specs.declared.page_run.PageRun.{PageRun}
use Rattle.elf_image_parts.specs.Runs.{IsRun, text_of}
use Rattle.class_definition.specs.Utf8.{character_bytes, text_bytes}
use Rattle.method_splitter.specs.Shares.{shared, share_at, share_count}
use Rattle.data_strings.specs.Texts.{word_text, page_text}

character-size : (c : ℕ) → length (character_bytes c) ≤ 3
character-size c = by_size (nat_le 1 c && nat_lt c 0x80) (nat_lt c 0x800)
  where
    by_size : (one two : Bool)
        → length (if one then c ∷ [] else if two then (0xC0 + c / 64) ∷ (0x80 + c % 64) ∷ []
        else (0xE0 + c / 4096) ∷ (0x80 + c / 64 % 64) ∷ (0x80 + c % 64) ∷ []) ≤ 3
    by_size true two = omega arith
    by_size false true = omega arith
    by_size false false = omega arith

small-size : (c : ℕ) → c < 0x800 → length (character_bytes c) ≤ 2
small-size c low = by_size (nat_le 1 c && nat_lt c 0x80) (nat_lt c 0x800) (grind (arith, low))
  where
    by_size : (one two : Bool) → two ≡ true
        → length (if one then c ∷ [] else if two then (0xC0 + c / 64) ∷ (0x80 + c % 64) ∷ []
        else (0xE0 + c / 4096) ∷ (0x80 + c / 64 % 64) ∷ (0x80 + c % 64) ∷ []) ≤ 2
    by_size true two is = omega arith
    by_size false true is = omega arith
    by_size false false is = absurd cc

text-size : (cs : List ℕ) → length (text_bytes cs) ≤ 3 * length cs
text-size [] = omega arith
text-size (c ∷ cs) = omega (arith, length-append (character_bytes c) (text_bytes cs), character-size c, text-size cs)

-- ---- words of pages

page-length : (words : List ℕ) → length (page_text words) ≡ 5 * length words
page-length [] = refl
page-length (w ∷ words) = omega (arith, length-append (word_text w) (page_text words), page-length words)

pub page-size : (words : List ℕ) → length words ≤ 1024 → length (text_bytes (page_text words)) ≤ 65535
page-size words few = omega (arith, few, page-length words, text-size (page_text words))

-- ---- runs of pages

head-low : (run : PageRun) → IsRun run → run.first / 4096 + (if run.writable then 128 else 0) < 0x800
head-low run is = by_kind run.writable
  where
    by_kind : (writable : Bool) → run.first / 4096 + (if writable then 128 else 0) < 0x800
    by_kind true = omega (arith, is.low, is.some)
    by_kind false = omega (arith, is.low, is.some)

runs-size : (runs : List PageRun) → All IsRun runs → length (text_bytes (text_of runs)) ≤ 8 * length runs
runs-size [] are = omega arith
runs-size (run ∷ runs) are =
    let head = run.first / 4096 + (if run.writable then 128 else 0) in
    let rest = run.first % 4096 in
    let more = run.count - 1 in
    let others = text_of runs in
    omega (
      arith,
      small-size head (head-low run (All-head IsRun run runs are)),
      character-size rest,
      character-size more,
      length-append (character_bytes head) (text_bytes (rest ∷ more ∷ others)),
      length-append (character_bytes rest) (text_bytes (more ∷ others)),
      length-append (character_bytes more) (text_bytes others),
      runs-size runs (All-tail IsRun run runs are),
    )

pub shared-size : (runs : List PageRun) (k : ℕ) → All IsRun runs → length (text_bytes (text_of (shared runs (share_at 8000 (length runs) k)))) ≤ 65535
shared-size runs k are =
    let share = share_at 8000 (length runs) k in
    let own = All-take IsRun share.count (drop share.first runs) (All-drop IsRun share.first runs are) in
    let few : length (shared runs share) ≤ 8000 =
    omega (arith, length-take (min 8000 (length runs - 8000 * k)) (drop share.first runs)) in
    omega (arith, few, runs-size (shared runs share) own)

pub few-shares : (count : ℕ) → count ≤ 2 ^ 19 → share_count 8000 count ≤ 66
few-shares count few = omega (arith, few)
