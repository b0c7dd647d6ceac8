-- A memory that is made page by page.
use Rattle.std.proofs.Common.{◌≡◌, ℕ, zero, suc, ◌+◌, ◌*◌, ◌/◌, ◌<◌, ◌≤◌, ◌⊎◌, inl, inr, Bool, true, false, ◌==◌, ◌&&◌, nat_lt, if◌then◌else◌, Option, Some, None, refl, ap, sym, ◌∙◌, arith}
use Rattle.std.proofs.lemmas.Bool.{eqb-true, eqb-false, lt-ltb, le-ltb, ltb-true, ltb-false}
use Rattle.run_definition.specs.Memory.{Memory}
use Rattle.mips_memory.specs.Pages.{no_memory}
use Rattle.mips_memory.specs.Loading.{memory_below}

-- memories are equal where their bytes are, and what may be written
same_memory : (m k : Memory) → ((a : ℕ) → m.byte a ≡ k.byte a) → ((a : ℕ) → m.writable a ≡ k.writable a) → m ≡ k
same_memory m k bytes writes =
    ap (λ (f : ℕ → Option ℕ). record m { byte = f }) (λ i a. bytes a i)
    ∙ ap (λ (g : ℕ → Bool). record k { writable = g }) (λ i a. writes a i)

pub below_none : (m : Memory) → no_memory ≡ memory_below m 0
unfolding memory_below
below_none m =
    same_memory no_memory (memory_below m 0)
    (λ a. ap (λ t. if t then m.byte a else None) (sym (le-ltb (a / 4096) 0 (omega arith))))
    (λ a. ap (λ t. t && m.writable a) (sym (le-ltb (a / 4096) 0 (omega arith))))

-- the page after those is not there yet
pub below_fresh : (m : Memory) (page : ℕ) → (memory_below m page).byte (page * 4096) ≡ None
unfolding memory_below
below_fresh m page = ap (λ t. if t then m.byte (page * 4096) else None) (le-ltb (page * 4096 / 4096) page (omega arith))

other_page : (x n : ℕ) (t : Bool) → nat_lt x n ≡ t → (x ≡ n → ⊥) → nat_lt x (n + 1) ≡ nat_lt x n
other_page x n true e ne = lt-ltb x (n + 1) (let l = ltb-true x n e in omega arith) ∙ sym e
other_page x n false e ne = le-ltb x (n + 1) (let l = ltb-false x n e in grind arith) ∙ sym e

module _ (m : Memory) (n : ℕ) where
  this_page : (a : ℕ) → (a / 4096 == n) ≡ true → nat_lt (a / 4096) (n + 1) ≡ true
  this_page a t = let e = eqb-true (a / 4096) n t in lt-ltb (a / 4096) (n + 1) (omega arith)

  earlier_page : (a : ℕ) → (a / 4096 == n) ≡ false → nat_lt (a / 4096) (n + 1) ≡ nat_lt (a / 4096) n
  earlier_page a t = other_page (a / 4096) n (nat_lt (a / 4096) n) refl (eqb-false (a / 4096) n t)

  mapped_byte : (byte : ℕ → ℕ) → ((a : ℕ) → a / 4096 ≡ n → m.byte a ≡ Some (byte a)) → (a : ℕ) (same : Bool) → (a / 4096 == n) ≡ same
      → (if same then Some (byte a) else (memory_below m n).byte a) ≡ (memory_below m (n + 1)).byte a
  unfolding memory_below
  mapped_byte byte are a true t =
      sym (are a (eqb-true (a / 4096) n t)) ∙ ap (λ b. if b then m.byte a else None) (sym (this_page a t))
  mapped_byte byte are a false t = ap (λ b. if b then m.byte a else None) (sym (earlier_page a t))

  mapped_writable : (writable : Bool) → ((a : ℕ) → a / 4096 ≡ n → m.writable a ≡ writable) → (a : ℕ) (same : Bool) → (a / 4096 == n) ≡ same
      → (if same then writable else (memory_below m n).writable a) ≡ (memory_below m (n + 1)).writable a
  unfolding memory_below
  mapped_writable writable are a true t =
      sym (are a (eqb-true (a / 4096) n t)) ∙ ap (λ b. b && m.writable a) (sym (this_page a t))
  mapped_writable writable are a false t = ap (λ b. b && m.writable a) (sym (earlier_page a t))

  -- a page more, as the memory has it
  pub below_mapped : (byte : ℕ → ℕ) (writable : Bool) → ((a : ℕ) → a / 4096 ≡ n → m.byte a ≡ Some (byte a)) → ((a : ℕ) → a / 4096 ≡ n → m.writable a ≡ writable)
      → record { byte = λ a. if a / 4096 == n then Some (byte a) else (memory_below m n).byte a; writable = λ a. if a / 4096 == n then writable else (memory_below m n).writable a }
      ≡ memory_below m (n + 1)
  below_mapped byte writable are writes =
      same_memory _ (memory_below m (n + 1))
      (λ a. mapped_byte byte are a (a / 4096 == n) refl)
      (λ a. mapped_writable writable writes a (a / 4096 == n) refl)

  absent_byte : ((a : ℕ) → a / 4096 ≡ n → m.byte a ≡ None) → (a : ℕ) (same : Bool) → (a / 4096 == n) ≡ same → (memory_below m n).byte a ≡ (memory_below m (n + 1)).byte a
  unfolding memory_below
  absent_byte absent a true t =
      let e = eqb-true (a / 4096) n t in
      ap (λ b. if b then m.byte a else None) (le-ltb (a / 4096) n (omega arith))
      ∙ sym (absent a e) ∙ ap (λ b. if b then m.byte a else None) (sym (this_page a t))
  absent_byte absent a false t = ap (λ b. if b then m.byte a else None) (sym (earlier_page a t))

  absent_writable : ((a : ℕ) → a / 4096 ≡ n → m.writable a ≡ false) → (a : ℕ) (same : Bool) → (a / 4096 == n) ≡ same → (memory_below m n).writable a ≡ (memory_below m (n + 1)).writable a
  unfolding memory_below
  absent_writable absent a true t =
      let e = eqb-true (a / 4096) n t in
      ap (λ b. b && m.writable a) (le-ltb (a / 4096) n (omega arith))
      ∙ sym (absent a e) ∙ ap (λ b. b && m.writable a) (sym (this_page a t))
  absent_writable absent a false t = ap (λ b. b && m.writable a) (sym (earlier_page a t))

  -- a page that the memory does not have
  pub below_absent : ((a : ℕ) → a / 4096 ≡ n → m.byte a ≡ None) → ((a : ℕ) → a / 4096 ≡ n → m.writable a ≡ false) → memory_below m n ≡ memory_below m (n + 1)
  below_absent bytes writes =
      same_memory (memory_below m n) (memory_below m (n + 1))
      (λ a. absent_byte bytes a (a / 4096 == n) refl)
      (λ a. absent_writable writes a (a / 4096 == n) refl)

  last_byte : ((a : ℕ) → n ≤ a / 4096 → m.byte a ≡ None) → (a : ℕ) (low : Bool) → nat_lt (a / 4096) n ≡ low → (memory_below m n).byte a ≡ m.byte a
  unfolding memory_below
  last_byte none a true t = ap (λ b. if b then m.byte a else None) t
  last_byte none a false t = ap (λ b. if b then m.byte a else None) t ∙ sym (none a (ltb-false (a / 4096) n t))

  last_writable : ((a : ℕ) → n ≤ a / 4096 → m.writable a ≡ false) → (a : ℕ) (low : Bool) → nat_lt (a / 4096) n ≡ low → (memory_below m n).writable a ≡ m.writable a
  unfolding memory_below
  last_writable none a true t = ap (λ b. b && m.writable a) t
  last_writable none a false t = ap (λ b. b && m.writable a) t ∙ sym (none a (ltb-false (a / 4096) n t))

  -- all pages that the memory has
  pub below_all : ((a : ℕ) → n ≤ a / 4096 → m.byte a ≡ None) → ((a : ℕ) → n ≤ a / 4096 → m.writable a ≡ false) → memory_below m n ≡ m
  below_all bytes writes =
      same_memory (memory_below m n) m
      (λ a. last_byte bytes a (nat_lt (a / 4096) n) refl)
      (λ a. last_writable writes a (nat_lt (a / 4096) n) refl)

-- pages that the memory does not have
pub below_gap : (m : Memory) (start end : ℕ) → start ≤ end
    → ((a : ℕ) → start ≤ a / 4096 → a / 4096 < end → m.byte a ≡ None) → ((a : ℕ) → start ≤ a / 4096 → a / 4096 < end → m.writable a ≡ false)
    → memory_below m start ≡ memory_below m end
below_gap m start zero ordered bytes writes = ap (memory_below m) (let same : start ≡ 0 = omega (arith, ordered) in same)
below_gap m start (suc end) ordered bytes writes =
    elim (split start end ordered) [
      | inl le ↦
          below_gap m start end le (λ a ge lt. bytes a ge (omega (arith, lt))) (λ a ge lt. writes a ge (omega (arith, lt)))
          ∙ below_absent m end (λ a here. bytes a (omega (arith, le, here)) (omega (arith, here))) (λ a here. writes a (omega (arith, le, here)) (omega (arith, here)))
          ∙ ap (memory_below m) (let same : end + 1 ≡ suc end = omega arith in same)
      | inr same ↦ ap (memory_below m) same
    ]
  where
    split : (n m : ℕ) → n ≤ suc m → (n ≤ m) ⊎ (n ≡ suc m)
    split n m h = grind arith
