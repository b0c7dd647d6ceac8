-- The shares of a list's elements, one behind the other.
use Rattle.std.proofs.Common.{◌≡◌, ℕ, zero, suc, ◌+◌, ◌*◌, ◌≤◌, List, [], ◌∷◌, ◌++◌, length, take, drop, map, ap, sym, ◌∙◌, arith}
use Rattle.std.specs.List.{flat_map, range_with_len}
use Rattle.std.specs.Prelude.{min}
use Rattle.std.proofs.Math.Nat.{mul_comm}
use Rattle.std.proofs.lemmas.Grind.{div_ceil_times}
use Rattle.std.proofs.lemmas.List.{append-nil, take-append-drop, take-take, drop-take, take_min, take_all, length-drop}
use Rattle.std.proofs.lemmas.List.Concat.{flat_map-append}
use Rattle.std.proofs.lemmas.List.FromFn.{map-range_with_len_more}
use Rattle.method_splitter.specs.Shares.{share_at, share_count, shared, shares}

take_sum : (a b : ℕ) (xs : List ℕ) → take (a + b) xs ≡ take a xs ++ take b (drop a xs)
take_sum a b xs =
    sym (take-append-drop a (take (a + b) xs))
    ∙ ap (λ l. l ++ drop a (take (a + b) xs)) (take-take a (a + b) xs (omega arith))
    ∙ ap (λ l. take a xs ++ l) (drop-take a b xs)

-- a share takes so many of the elements that are left
own : (size k : ℕ) (xs : List ℕ) → shared xs (share_at size (length xs) k) ≡ take size (drop (size * k) xs)
own size k xs = ap (λ n. take (min size n) (drop (size * k) xs)) (sym (length-drop (size * k) xs)) ∙ take_min size (drop (size * k) xs)

first_shares : (size k : ℕ) (xs : List ℕ) → flat_map (shared xs) (map (share_at size (length xs)) (range_with_len 0 k)) ≡ take (size * k) xs
first_shares size zero xs = let e : size * 0 ≡ 0 = omega arith in ap (λ n. take n xs) (sym e)
first_shares size (suc k) xs =
    let at = share_at size (length xs) in
    let more : suc k ≡ k + 1 = omega arith in
    let e : size * (k + 1) ≡ size * k + size = omega (arith, mul_comm size (k + 1), mul_comm size k) in
    ap (λ n. flat_map (shared xs) (map at (range_with_len 0 n))) more
    ∙ ap (flat_map (shared xs)) (map-range_with_len_more at 0 k k (omega arith))
    ∙ flat_map-append (shared xs) (map at (range_with_len 0 k)) (at k ∷ [])
    ∙ ap (λ l. l ++ (shared xs (at k) ++ [])) (first_shares size k xs)
    ∙ ap (λ l. take (size * k) xs ++ l) (append-nil (shared xs (at k)) ∙ own size k xs)
    ∙ sym (take_sum (size * k) size xs)
    ∙ ap (λ n. take n xs) (sym e ∙ ap (λ n. size * n) (sym more))

pub all_shares : (size : ℕ) (xs : List ℕ) → 1 ≤ size → flat_map (shared xs) (shares size (length xs)) ≡ xs
all_shares size xs some =
    let count = share_count size (length xs) in
    first_shares size count xs
    ∙ take_all (size * count) xs (omega (arith, (div_ceil_times (length xs) size some).0, mul_comm size count))
