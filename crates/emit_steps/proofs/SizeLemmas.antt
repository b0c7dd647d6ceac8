-- Numbers that are below 2^32, where they are.
use Rattle.std.proofs.Common.{◌≡◌, ℕ, ◌^◌, ◌≤◌, ◌<◌, ◌⊎◌, inl, inr, Bool, nat_lt, if◌then◌else◌, Option, Some, None, sym, ap, ◌∙◌, lt-ltb, le-ltb}
use Rattle.std.proofs.lemmas.Bool.{cases_lt}
use Rattle.std.proofs.lemmas.Option.{none-some}

abbrev pub low_word : ℕ → Option ℕ
low_word n = if nat_lt n (2 ^ 32) then Some n else None

pub large-none : (n : ℕ) → 2 ^ 32 ≤ n → None ≡ low_word n
large-none n large = sym (ap (λ (b : Bool). if b then Some n else None) (le-ltb n (2 ^ 32) large))

pub small-is : (n : ℕ) → n < 2 ^ 32 → Some n ≡ low_word n
small-is n small = sym (ap (λ (b : Bool). if b then Some n else None) (lt-ltb n (2 ^ 32) small))

pub small-some : (n m : ℕ) → m ≡ n → m < 2 ^ 32 → Some m ≡ low_word n
small-some n m same small = small-is m small ∙ ap low_word same

pub none-large : (n : ℕ) → None ≡ low_word n → 2 ^ 32 ≤ n
none-large n none = by (cases_lt n (2 ^ 32))
  where
    by : (n < 2 ^ 32) ⊎ (2 ^ 32 ≤ n) → 2 ^ 32 ≤ n
    by (inl small) = absurd (none-some n (none ∙ sym (small-is n small)))
    by (inr large) = large

pub some-is : (n m : ℕ) → Some m ≡ low_word n → m ≡ n
some-is n m some = by (cases_lt n (2 ^ 32))
  where
    by : (n < 2 ^ 32) ⊎ (2 ^ 32 ≤ n) → m ≡ n
    by (inl small) = let same : Some m ≡ Some n = some ∙ sym (small-is n small) in cc
    by (inr large) = absurd (none-some m (large-none n large ∙ sym some))
