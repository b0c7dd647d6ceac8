-- The bytes of a file, block by block.
use Rattle.std.proofs.Common.{◌≡◌, ℕ, zero, suc, ◌+◌, ◌*◌, ◌/◌, ◌%◌, ◌<◌, ◌≤◌, List, [], ◌∷◌, ◌++◌, map, length, take, get_or, ap, sym, ◌∙◌, inl, inr, arith, append-nil, append_assoc}
use Rattle.std.specs.List.{range_with_len}
use Rattle.std.proofs.lemmas.Bool.{cases_lt}
use Rattle.std.proofs.lemmas.List.{take_more, take_all}
use Rattle.std.proofs.lemmas.List.FromFn.{take-map-range_with_len, map-range_with_len_more}
use Rattle.block_pool.specs.Blocks.{Pool, bytes_of}
use Rattle.unix_files.specs.Stored.{byte_of, block_in, file_bytes}
use Rattle.unix_files.specs.declared.chain.Chain.{Chain}
use Rattle.unix_files.proofs.LaidLemmas.{length-file_bytes}

-- values of a function, and behind them those that a list begins with
map-joined : (f : ℕ → ℕ) (xs : List ℕ) (a m : ℕ) → m ≤ length xs → ((i : ℕ) → i < m → f (a + i) ≡ get_or xs i 0) → map f (range_with_len 0 (a + m)) ≡ map f (range_with_len 0 a) ++ take m xs
map-joined f xs a zero le same =
    let e : a + 0 ≡ a = omega arith in
    ap (λ n. map f (range_with_len 0 n)) e ∙ sym (append-nil (map f (range_with_len 0 a)))
map-joined f xs a (suc m) le same =
    let front = map f (range_with_len 0 a) in
    let e : a + suc m ≡ (a + m) + 1 = omega arith in
    let s : m + 1 ≡ suc m = omega arith in
    ap (λ n. map f (range_with_len 0 n)) e
    ∙ (map-range_with_len_more f 0 (a + m) (a + m) (omega arith)
    ∙ (ap (λ l. l ++ f (a + m) ∷ []) (map-joined f xs a m (omega arith) (λ i less. same i (omega arith)))
    ∙ (append_assoc front (take m xs) (f (a + m) ∷ [])
    ∙ (ap (λ x. front ++ (take m xs ++ x ∷ [])) (same m (omega arith))
    ∙ (ap (λ l. front ++ l) (sym (take_more xs m 0 (omega arith))) ∙ ap (λ n. front ++ take n xs) s)))))

-- the bytes of one more block of a chain, or those that it has there
pub bytes-more : (p : Pool) (c : Chain) (k m : ℕ) → length (bytes_of p (block_in p c k)) ≡ 4096 → m ≤ 4096 → 4096 * k + m ≤ c.size → take (4096 * k + m) (file_bytes p c) ≡ take (4096 * k) (file_bytes p c) ++ take m (bytes_of p (block_in p c k))
unfolding file_bytes
bytes-more p c k m sized small end =
    take-map-range_with_len (byte_of p c) 0 c.size (4096 * k + m) end
    ∙ (map-joined (byte_of p c) (bytes_of p (block_in p c k)) (4096 * k) m (omega arith)
    (λ i less.
    let block : (4096 * k + i) / 4096 ≡ k = omega arith in
    let place : (4096 * k + i) % 4096 ≡ i = omega arith in
    ap (λ j. get_or (bytes_of p (block_in p c j)) ((4096 * k + i) % 4096) 0) block ∙ ap (λ j. get_or (bytes_of p (block_in p c k)) j 0) place)
    ∙ ap (λ l. l ++ take m (bytes_of p (block_in p c k))) (sym (take-map-range_with_len (byte_of p c) 0 c.size (4096 * k) (omega arith))))

pub take-whole : (p : Pool) (c : Chain) (n : ℕ) → c.size ≤ n → take n (file_bytes p c) ≡ file_bytes p c
take-whole p c n over = let size = length-file_bytes p c in take_all n (file_bytes p c) (omega arith)

-- where a block has fewer bytes, no further ones follow
pub take-next : (p : Pool) (c : Chain) (k m : ℕ) → m ≤ 4096 → (m < 4096 → 4096 * k + m ≡ c.size) → take (4096 * k + m) (file_bytes p c) ≡ take (4096 * (k + 1)) (file_bytes p c)
take-next p c k m small full = elim (cases_lt m 4096) [
  | inl less ↦ let end = full less in take-whole p c (4096 * k + m) (omega arith) ∙ sym (take-whole p c (4096 * (k + 1)) (omega arith))
  | inr more ↦ let e : 4096 * k + m ≡ 4096 * (k + 1) = omega arith in ap (λ n. take n (file_bytes p c)) e
]
