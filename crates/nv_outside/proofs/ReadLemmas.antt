-- What a read from the middle of some bytes takes off.
use Rattle.std.proofs.Common.{◌≡◌, ℕ, ◌+◌, ◌<◌, min, List, [], ◌++◌, length, take, drop, sym, ap, ◌∙◌, arith, length-drop, drop-drop}
use Rattle.std.proofs.lemmas.List.{take-append-drop}
use Rattle.std.proofs.Math.ListN.{drop_of_length-le}

pub rest_splits : (bytes buf : List ℕ) (place n : ℕ) → take n buf ≡ take n (drop place bytes) → drop place bytes ≡ take n buf ++ drop (place + n) bytes
rest_splits bytes buf place n same = sym (take-append-drop n (drop place bytes)) ∙ ap (λ xs. xs ++ drop n (drop place bytes)) (sym same) ∙ ap (λ xs. take n buf ++ xs) (drop-drop n place bytes)

pub nothing_left : (bytes buf : List ℕ) (place n : ℕ) → n ≡ min (length buf) (length (drop place bytes)) → n ≡ 0 → 0 < length buf → drop (place + n) bytes ≡ []
nothing_left bytes buf place n least none some = drop_of_length-le bytes (omega (arith, length-drop place bytes))
