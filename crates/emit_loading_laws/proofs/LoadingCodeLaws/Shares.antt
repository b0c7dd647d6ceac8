-- Runs of pages that are divided into texts.
use Rattle.std.proofs.Common.{◌≡◌, ℕ, zero, suc, ◌+◌, ◌-◌, ◌*◌, ◌^◌, ◌<◌, ◌≤◌, List, [], ◌∷◌, ◌++◌, length, take, drop, map, flat_map, refl, ap, sym, ◌∙◌, mul-le-mul_left, arith}
use Rattle.std.specs.Prelude.{min}
use Rattle.std.specs.List.{All, AllZip, range_with_len}
use Rattle.std.proofs.Math.Nat.{mul_comm}
use Rattle.std.proofs.lemmas.Grind.{div_ceil_times}
use Rattle.std.proofs.lemmas.List.{append-nil, take-append-drop, take-take, drop-take, take_min, take_all, length-take, length-drop}
use Rattle.std.proofs.lemmas.List.Concat.{flat_map-append}
use Rattle.std.proofs.lemmas.List.Elements.{All-map, All-take, All-drop}
use Rattle.std.proofs.lemmas.List.FromFn.{length-range_with_len, get_or-range_with_len}
use Rattle.elf_image_parts.specs.declared.page_run.PageRun.{PageRun}
use Rattle.elf_image_parts.specs.Runs.{run_pages, text_of, IsRun}
use Rattle.jvm_definition.specs.Program.{Program}
use Rattle.method_splitter.specs.Shares.{share_count}
use Rattle.emit_loading_laws.specs.Loaded.{TellsRuns, HasRuns, run_share, run_shares, share_texts, pages_told}

range-more : (a n : ℕ) → range_with_len a (suc n) ≡ range_with_len a n ++ (a + n) ∷ []
range-more a zero = let e : a ≡ a + 0 = omega arith in ap (λ x. x ∷ []) e
range-more a (suc n) =
    let e : a + 1 + n ≡ a + suc n = omega arith in
    ap (λ l. a ∷ l) (range-more (a + 1) n ∙ ap (λ x. range_with_len (a + 1) n ++ x ∷ []) e)

take-sum : (a b : ℕ) (xs : List PageRun) → take (a + b) xs ≡ take a xs ++ take b (drop a xs)
take-sum a b xs =
    sym (take-append-drop a (take (a + b) xs))
    ∙ ap (λ l. l ++ drop a (take (a + b) xs)) (take-take a (a + b) xs (omega arith))
    ∙ ap (λ l. take a xs ++ l) (drop-take a b xs)

module _ (size : ℕ) (runs : List PageRun) where
  own : (k : ℕ) → run_share size runs k ≡ take size (drop (size * k) runs)
  own k = ap (λ n. take (min size n) (drop (size * k) runs)) (sym (length-drop (size * k) runs)) ∙ take_min size (drop (size * k) runs)

  first-shares : (k : ℕ) → flat_map (run_share size runs) (range_with_len 0 k) ≡ take (size * k) runs
  first-shares zero = let e : size * 0 ≡ 0 = omega arith in ap (λ n. take n runs) (sym e)
  first-shares (suc k) =
      let e : size * suc k ≡ size * k + size = omega (arith, mul_comm size (suc k), mul_comm size k) in
      let at : 0 + k ≡ k = omega arith in
      ap (flat_map (run_share size runs)) (range-more 0 k ∙ ap (λ x. range_with_len 0 k ++ x ∷ []) at)
      ∙ flat_map-append (run_share size runs) (range_with_len 0 k) (k ∷ [])
      ∙ ap (λ l. l ++ (run_share size runs k ++ [])) (first-shares k)
      ∙ ap (λ l. take (size * k) runs ++ l) (append-nil (run_share size runs k) ∙ own k)
      ∙ sym (take-sum (size * k) size runs)
      ∙ ap (λ n. take n runs) (sym e)

told-joined : (f : ℕ → List PageRun) (ks : List ℕ) → pages_told (map f ks) ≡ flat_map run_pages (flat_map f ks)
told-joined f [] = refl
told-joined f (k ∷ ks) =
    ap (λ l. flat_map run_pages (f k) ++ l) (told-joined f ks)
    ∙ sym (flat_map-append run_pages (f k) (flat_map f ks))

pub runs-told : (size : ℕ) (runs : List PageRun) → 1 ≤ size → pages_told (run_shares size runs) ≡ flat_map run_pages runs
runs-told size runs some =
    let count = share_count size (length runs) in
    told-joined (run_share size runs) (range_with_len 0 count)
    ∙ ap (flat_map run_pages) (first-shares size runs count ∙ take_all (size * count) runs (omega (arith, (div_ceil_times (length runs) size some).0, mul_comm size count)))

-- ---- the texts

few-min : (a b : ℕ) → min a b ≤ a
few-min a b = grind arith

some-min : (a b : ℕ) → 1 ≤ a → 1 ≤ b → 1 ≤ min a b
some-min a b x y = grind arith

tells : (program : Program) (f : ℕ → List PageRun) → ((k : ℕ) → All IsRun (f k)) → ((k : ℕ) → length (f k) < 2 ^ 29) → (ks texts : List ℕ) → AllZip (λ (slot : ℕ) (chars : List ℕ). program.characters 0 slot ≡ chars) texts (map (λ k. text_of (f k)) ks) → AllZip (TellsRuns program 0) texts (map f ks)
tells program f are few [] [] is = tt
tells program f are few [] (slot ∷ texts) is = absurd is
tells program f are few (k ∷ ks) [] is = absurd is
tells program f are few (k ∷ ks) (slot ∷ texts) is = (record { characters_are = is.0; are_runs = are k; few = few k }, tells program f are few ks texts is.1)

pub texts-tell : (program : Program) (size : ℕ) (runs : List PageRun) (texts : List ℕ) → size < 2 ^ 29 → All IsRun runs → AllZip (λ (slot : ℕ) (chars : List ℕ). program.characters 0 slot ≡ chars) texts (share_texts size runs) → AllZip (TellsRuns program 0) texts (run_shares size runs)
texts-tell program size runs texts small are is =
    tells program (run_share size runs)
    (λ k. All-take IsRun (min size (length runs - size * k)) (drop (size * k) runs) (All-drop IsRun (size * k) runs are))
    (λ k. let a = ap length (own size runs k) ∙ length-take size (drop (size * k) runs) in let b = few-min size (length (drop (size * k) runs)) in omega (arith, a, b, small))
    (range_with_len 0 (share_count size (length runs))) texts is

some-there : (size : ℕ) (runs : List PageRun) (k : ℕ) → 1 ≤ size → k < share_count size (length runs) → HasRuns (run_share size runs k)
some-there size runs k some within =
    let count = share_count size (length runs) in
    let a = ap length (own size runs k) ∙ length-take size (drop (size * k) runs) in
    let less : size * suc k ≤ size * count = mul-le-mul_left size (omega (arith, within)) in
    let last = (div_ceil_times (length runs) size some).1 in
    let long = length-drop (size * k) runs in
    let e : size * suc k ≡ size * k + size = omega (arith, mul_comm size (suc k), mul_comm size k) in
    let left : 1 ≤ length (drop (size * k) runs) = omega (arith, long, less, last, e, mul_comm size count) in
    let b = some-min size (length (drop (size * k) runs)) some left in
    omega (arith, a, b)

pub shares-some : (size : ℕ) (runs : List PageRun) → 1 ≤ size → All HasRuns (run_shares size runs)
shares-some size runs some =
    let count = share_count size (length runs) in
    All-map HasRuns (run_share size runs) (range_with_len 0 count)
    (λ i d within.
    let long = length-range_with_len 0 count in
    let below : i < count = omega (arith, within, long) in
    let at = get_or-range_with_len 0 count i d below in
    some-there size runs _ some (omega (arith, at, below)))
