-- A memory as a call of the program sees it: the byte at each address that can be read, and which addresses may be written.
use Rattle.std.specs.Prelude.{ℕ, zero, suc, ◌+◌, Bool, true, ◌&&◌, List, [], ◌∷◌, Option, Some, None, option_map}

pub record Memory : Type 0 where
  pub byte : ℕ → Option ℕ
  pub writable : ℕ → Bool

-- the n bytes from an address, if each of them can be read
abbrev pub bytes_from : Memory → ℕ → ℕ → Option (List ℕ)
bytes_from m a zero = Some []
bytes_from m a (suc n) =
    elim (m.byte a) [ None ↦ None | Some b ↦ option_map (λ bs. b ∷ bs) (bytes_from m (a + 1) n) ]

-- each of the n addresses from one on may be written
abbrev pub can_write : Memory → ℕ → ℕ → Bool
can_write m a zero = true
can_write m a (suc n) = m.writable a && can_write m (a + 1) n

-- bytes put one after the other from an address on, by what one put leaves
abbrev pub patched : {C : Type 0} → (C → ℕ → ℕ → C) → C → ℕ → List ℕ → C
patched put_at c a [] = c
patched put_at c a (b ∷ bs) = patched put_at (put_at c a b) (a + 1) bs
