-- Memory is there page by page: a page has 4,096 addresses, from a multiple of 4,096 on, and its front is there or nothing of it.
use Rattle.std.specs.Prelude.{◌≡◌, ℕ, ◌/◌, ◌≤◌, Bool, true}

-- what holds of an address holds of those before it in its page
abbrev pub IsByPages : (ℕ → Bool) → Type 0
IsByPages test = (a b : ℕ) → a ≤ b → a / 4096 ≡ b / 4096 → test b ≡ true → test a ≡ true
