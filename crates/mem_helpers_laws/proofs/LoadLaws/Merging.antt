-- Parts of words: what LWL and LWR take from memory, as shifts and masks.
use Rattle.std.proofs.Common.{◌≡◌, ℕ, ◌+◌, ◌-◌, ◌*◌, ◌/◌, ◌%◌, ◌^◌, ◌<◌, ◌≤◌, nat_lt, nat_le, Bool, true, false, if◌then◌else◌, bit_and, bit_or, bit_xor, ◌⊎◌, inl, inr, Some, None, refl, ap, sym, ◌∙◌, arith, lit<}
use Rattle.std.proofs.lemmas.Bool.{lt-ltb, le-ltb, le-leb, lt-leb, ltb-true, leb-true, cases_lt}
use Rattle.std.proofs.lemmas.Nat.{and_mask, or_comm, or_shifted, mod_below, pow_pos}
use Rattle.std.proofs.lemmas.Nat.Bits.{and_high}
use Rattle.run_definition.specs.Words.{IsWord, lane_of_word, lane_in_order, word_of_bytes}
use Rattle.run_definition.specs.declared.order.Order.{Order}
use Rattle.run_definition.specs.declared.order.Order.TheVariants.{Big, Little}
use Rattle.nv_words.proofs.LaneLemmas.{below_four, lane_of_word-lt, lane_of_word-of_bytes}
use Rattle.run_definition.specs.Memory.{Memory}
use Rattle.mips_definition.specs.Memory as guest
use Rattle.mips_definition.specs.Memory.{byte_at, merged, merged_lane, left_part, right_part}
use Rattle.mem_helpers_laws.proofs.LoadLaws.Accessing.{IsWordAt}
use Rattle.mem_helpers_laws.proofs.LoadLaws.Whole.{byte-is}

-- ---- the word in the guest's order

pub IsWord-ordered : (order : Order) (v : ℕ) → IsWord v → IsWord (guest.word_of_lanes order v)
IsWord-ordered Big v word = word
IsWord-ordered Little v word =
    let a = lane_of_word-lt v 0 in
    let b = lane_of_word-lt v 1 in
    let c = lane_of_word-lt v 2 in
    let d = lane_of_word-lt v 3 in
    omega arith

ordered-lane : (order : Order) (v j : ℕ) → j < 4 → lane_of_word (guest.word_of_lanes order v) j ≡ lane_in_order order v j
ordered-lane Big v j h = refl
ordered-lane Little v j h =
    let lanes = lane_of_word-of_bytes (lane_of_word v 3) (lane_of_word v 2) (lane_of_word v 1) (lane_of_word v 0) (lane_of_word-lt v 3) (lane_of_word-lt v 2) (lane_of_word-lt v 1) (lane_of_word-lt v 0) in
    below_four (λ j. lane_of_word (guest.word_of_lanes Little v) j ≡ lane_of_word v (3 - j)) lanes.0 lanes.1 lanes.2 lanes.3 j h

-- ---- the bits

abbrev ones : ℕ
ones = 0xFFFF_FFFF

-- the left part of x, of which so many bytes are shifted out, and the other bytes of old
abbrev pub left_mixed : ℕ → ℕ → ℕ → ℕ
left_mixed x old amount = bit_or (x * 2 ^ amount % 2 ^ 32) (bit_and old (bit_xor (ones * 2 ^ amount % 2 ^ 32) ones))

abbrev pub right_mixed : ℕ → ℕ → ℕ → ℕ
right_mixed x old amount = bit_or (x / 2 ^ amount) (bit_and old (bit_xor (ones / 2 ^ amount) ones))

abbrev left_lane : ℕ → ℕ → ℕ → ℕ → ℕ
left_lane x old k lane = if nat_lt (k + lane) 4 then lane_of_word x (k + lane) else lane_of_word old lane

abbrev right_lane : ℕ → ℕ → ℕ → ℕ → ℕ
right_lane x old k lane = if nat_le k lane then lane_of_word x (lane - k) else lane_of_word old lane

abbrev left_word : ℕ → ℕ → ℕ → ℕ
left_word x old k = word_of_bytes (left_lane x old k 0) (left_lane x old k 1) (left_lane x old k 2) (left_lane x old k 3)

abbrev right_word : ℕ → ℕ → ℕ → ℕ
right_word x old k = word_of_bytes (right_lane x old k 0) (right_lane x old k 1) (right_lane x old k 2) (right_lane x old k 3)

-- so many low bits are kept
low-kept : (x old n m : ℕ) → x * 2 ^ n % 2 ^ 32 ≡ m * 2 ^ n → bit_or (x * 2 ^ n % 2 ^ 32) (bit_and old (2 ^ n - 1)) ≡ m * 2 ^ n + old % 2 ^ n
low-kept x old n m e =
    ap (λ y. bit_or y (bit_and old (2 ^ n - 1))) e
    ∙ ap (bit_or (m * 2 ^ n)) (and_mask old n)
    ∙ or_shifted m n (old % 2 ^ n) (mod_below old (2 ^ n) (pow_pos n))

-- so many high bits are kept
high-kept : (y old j k : ℕ) → y < 2 ^ k → bit_or y (bit_and old (2 ^ (j + k) - 2 ^ k)) ≡ old / 2 ^ k % 2 ^ j * 2 ^ k + y
high-kept y old j k h =
    ap (bit_or y) (and_high old j k)
    ∙ or_comm y (old / 2 ^ k % 2 ^ j * 2 ^ k)
    ∙ or_shifted (old / 2 ^ k % 2 ^ j) k y h

pub left-mixed : (x old k : ℕ) → IsWord x → IsWord old → k < 4 → left_mixed x old (8 * k) ≡ left_word x old k
left-mixed x old k hx ho h =
    below_four (λ k. left_mixed x old (8 * k) ≡ left_word x old k)
    (low-kept x old 0 x (omega arith) ∙ omega arith)
    (low-kept x old 8 (x % 2 ^ 24) (omega arith) ∙ omega arith)
    (low-kept x old 16 (x % 2 ^ 16) (omega arith) ∙ omega arith)
    (low-kept x old 24 (x % 2 ^ 8) (omega arith) ∙ omega arith)
    k h

pub right-mixed : (x old k : ℕ) → IsWord x → IsWord old → k < 4 → right_mixed x old (8 * k) ≡ right_word x old k
right-mixed x old k hx ho h =
    below_four (λ k. right_mixed x old (8 * k) ≡ right_word x old k)
    (high-kept (x / 2 ^ 0) old 0 32 (omega arith) ∙ omega arith)
    (high-kept (x / 2 ^ 8) old 8 24 (omega arith) ∙ omega arith)
    (high-kept (x / 2 ^ 16) old 16 16 (omega arith) ∙ omega arith)
    (high-kept (x / 2 ^ 24) old 24 8 (omega arith) ∙ omega arith)
    k h

-- ---- the guest's lanes

-- a lane by whether it has a part
by-part : (m : Memory) (old lane at y : ℕ) (b c : Bool) → b ≡ c → (c ≡ true → byte_at m at ≡ y) → merged_lane m (λ l. if b then Some at else None) old lane ≡ (if c then y else lane_of_word old lane)
by-part m old lane at y true true e byte = byte refl
by-part m old lane at y false false e byte = refl
by-part m old lane at y true false e byte = cc
by-part m old lane at y false true e byte = cc

-- how many bytes are shifted out
abbrev pub left_out : Order → ℕ → ℕ
left_out Big a = a % 4
left_out Little a = 3 - a % 4

abbrev pub right_out : Order → ℕ → ℕ
right_out Big a = 3 - a % 4
right_out Little a = a % 4

same-le : (a b c d : ℕ) → (a ≤ b → c < d) → (c < d → a ≤ b) → nat_le a b ≡ nat_lt c d
same-le a b c d there back = by_cases (cases_lt c d)
  where
    by_cases : (c < d) ⊎ (d ≤ c) → nat_le a b ≡ nat_lt c d
    by_cases (inl lt) = le-leb a b (back lt) ∙ sym (lt-ltb c d lt)
    by_cases (inr ge) = other (cases_lt b a)
      where
        other : (b < a) ⊎ (a ≤ b) → nat_le a b ≡ nat_lt c d
        other (inl gt) = lt-leb a b gt ∙ sym (le-ltb c d ge)
        other (inr le) = let lt = there le in absurd (omega arith)

same-leb : (a b c d : ℕ) → (a ≤ b → c ≤ d) → (c ≤ d → a ≤ b) → nat_le a b ≡ nat_le c d
same-leb a b c d there back = by_cases (cases_lt d c)
  where
    by_cases : (d < c) ⊎ (c ≤ d) → nat_le a b ≡ nat_le c d
    by_cases (inr le) = le-leb a b (back le) ∙ sym (le-leb c d le)
    by_cases (inl gt) = other (cases_lt b a)
      where
        other : (b < a) ⊎ (a ≤ b) → nat_le a b ≡ nat_le c d
        other (inl more) = lt-leb a b more ∙ sym (lt-leb c d gt)
        other (inr le) = let below = there le in absurd (omega arith)

four-same : {a b c d e f g h : ℕ} → a ≡ e → b ≡ f → c ≡ g → d ≡ h → word_of_bytes a b c d ≡ word_of_bytes e f g h
four-same p q r s = omega (arith, p, q, r, s)

module _ (memory : Memory) (a v old : ℕ) (at : IsWordAt memory a v) where
  left-lane : (order : Order) (lane : ℕ) → lane < 4 → merged_lane memory (left_part order a) old lane ≡ left_lane (guest.word_of_lanes order v) old (left_out order a) lane
  left-lane Big lane h =
      by-part memory old lane (a + lane) (lane_of_word v (a % 4 + lane)) (nat_lt (a % 4 + lane) 4) (nat_lt (a % 4 + lane) 4) refl
      (λ t. let lt = ltb-true (a % 4 + lane) 4 t in byte-is memory a v (a + lane) (a % 4 + lane) at (omega arith) (omega arith))
  left-lane Little lane h =
      by-part memory old lane (a - lane) (lane_of_word (guest.word_of_lanes Little v) (3 - a % 4 + lane)) (nat_le lane (a % 4)) (nat_lt (3 - a % 4 + lane) 4)
      (same-le lane (a % 4) (3 - a % 4 + lane) 4 (λ e. omega arith) (λ e. omega arith))
      (λ t. let lt = ltb-true (3 - a % 4 + lane) 4 t in
      byte-is memory a v (a - lane) (3 - (3 - a % 4 + lane)) at (omega arith) (omega arith)
      ∙ sym (ordered-lane Little v (3 - a % 4 + lane) lt))

  right-lane : (order : Order) (lane : ℕ) → lane < 4 → merged_lane memory (right_part order a) old lane ≡ right_lane (guest.word_of_lanes order v) old (right_out order a) lane
  right-lane Big lane h =
      by-part memory old lane (a + lane - 3) (lane_of_word v (lane - (3 - a % 4))) (nat_le 3 (a % 4 + lane)) (nat_le (3 - a % 4) lane)
      (same-leb 3 (a % 4 + lane) (3 - a % 4) lane (λ e. omega arith) (λ e. omega arith))
      (λ t. let le = leb-true (3 - a % 4) lane t in byte-is memory a v (a + lane - 3) (lane - (3 - a % 4)) at (omega arith) (omega arith))
  right-lane Little lane h =
      by-part memory old lane (a + 3 - lane) (lane_of_word (guest.word_of_lanes Little v) (lane - a % 4)) (nat_le (a % 4) lane) (nat_le (a % 4) lane) refl
      (λ t. let le = leb-true (a % 4) lane t in
      byte-is memory a v (a + 3 - lane) (3 - (lane - a % 4)) at (omega arith) (omega arith)
      ∙ sym (ordered-lane Little v (lane - a % 4) (omega arith)))

  pub left-merged : (order : Order) → merged memory (left_part order a) old ≡ left_word (guest.word_of_lanes order v) old (left_out order a)
  left-merged order =
      let zeroth = left-lane order 0 (lit< tt) in
      let first = left-lane order 1 (lit< tt) in
      let second = left-lane order 2 (lit< tt) in
      let third = left-lane order 3 (lit< tt) in
      four-same zeroth first second third

  pub right-merged : (order : Order) → merged memory (right_part order a) old ≡ right_word (guest.word_of_lanes order v) old (right_out order a)
  right-merged order =
      let zeroth = right-lane order 0 (lit< tt) in
      let first = right-lane order 1 (lit< tt) in
      let second = right-lane order 2 (lit< tt) in
      let third = right-lane order 3 (lit< tt) in
      four-same zeroth first second third
