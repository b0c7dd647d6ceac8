-- How many lines may be left.
use Rattle.std.proofs.Common.{◌≡◌, ℕ, ◌+◌, ◌<◌, ◌≤◌, List, length, Option, Some, None, IfSome, option_copied, Bor, arith, ap}

-- an upper bound on the lines of what is left of a text
abbrev pub left_count : Option (List ℕ) → ℕ
left_count None = 0
left_count (Some text) = length text + 1

-- there are fewer behind a line
pub fewer : (after : Option (Bor (List ℕ))) (n : ℕ) → IfSome after (λ rest. length rest.now < n) → left_count (option_copied after) ≤ n
fewer None n h = omega arith
fewer (Some rest) n h = omega (arith, h)

pub few_next : (left : Option (List ℕ)) (rest : List ℕ) (after : Option (Bor (List ℕ))) (line most : ℕ)
    → left ≡ Some rest → IfSome after (λ r. length r.now < length rest) → line + left_count left ≤ most
    → line + 1 + left_count (option_copied after) ≤ most
few_next left rest after line most is h few = omega (arith, ap left_count is, fewer after (length rest) h, few)
