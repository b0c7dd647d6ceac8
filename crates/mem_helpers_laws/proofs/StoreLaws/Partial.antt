-- Memory after a store of a part of a word.
use Rattle.std.proofs.Common.{◌≡◌, ℕ, ◌+◌, ◌-◌, ◌/◌, ◌%◌, ◌^◌, ◌<◌, nat_lt, nat_le, Bool, true, false, if◌then◌else◌, Option, Some, None, refl, ap, ◌∙◌, arith, lit<}
use Rattle.std.proofs.lemmas.Bool.{ltb-true, leb-true}
use Rattle.run_definition.specs.Words.{lane_of_word, word_with_lane}
use Rattle.run_definition.specs.declared.order.Order.{Order}
use Rattle.run_definition.specs.declared.order.Order.TheVariants.{Big, Little}
use Rattle.nv_words.proofs.LaneLemmas.{below_four, lane_of_word-lt}
use Rattle.run_definition.specs.Memory.{Memory}
use Rattle.mips_definition.specs.Memory.{with_byte, with_lanes, left_part, right_part}
use Rattle.emit_simulation_laws.specs.Memory.{with_word_at}
use Rattle.mem_helpers_laws.proofs.StoreLaws.Lanes.{lane-put}
use Rattle.mem_helpers_laws.proofs.StoreLaws.Bytes.{word_of, word_of-lt, AreBytes, with_one, with_one-lt, word_with_lane-of, left_bytes, right_bytes}

-- a lane that has a part in the access, where a test holds, at an address that is lane j of the word
lane-done : (m : Memory) (k y c j : ℕ) (f : ℕ → ℕ) (t : Bool) → AreBytes f → c < 2 ^ 8 → (t ≡ true → (y / 4 ≡ k) × (y % 4 ≡ j)) → ◌≡◌ {A = Memory} (elim (if t then Some y else None) as (λ o. Memory) [ None ↦ with_word_at m k (word_of f) | Some x ↦ with_byte (with_word_at m k (word_of f)) x c ]) (with_word_at m k (word_of (with_one t j c f)))
lane-done m k y c j f false bytes byte inside = refl
lane-done m k y c j f true bytes byte inside =
    let here = inside refl in
    let below : j < 4 = omega (arith, here.1) in
    lane-put m k (word_of f) y c here.0 (word_of-lt f bytes) byte
    ∙ ap (λ i. with_word_at m k (word_with_lane (word_of f) i c)) here.1
    ∙ ap (with_word_at m k) (word_with_lane-of f c bytes j below)

-- the four lanes, one after the other
abbrev with_four : (ℕ → Bool) → (ℕ → ℕ) → ℕ → (ℕ → ℕ) → ℕ → ℕ
with_four test at value f =
    with_one (test 3) (at 3) (lane_of_word value 3) (with_one (test 2) (at 2) (lane_of_word value 2) (with_one (test 1) (at 1) (lane_of_word value 1) (with_one (test 0) (at 0) (lane_of_word value 0) f)))

module _ (m : Memory) (k value : ℕ) (f : ℕ → ℕ) (bytes : AreBytes f) (test : ℕ → Bool) (address at : ℕ → ℕ) (inside : (lane : ℕ) → lane < 4 → test lane ≡ true → (address lane / 4 ≡ k) × (address lane % 4 ≡ at lane)) where
  abbrev part : ℕ → Option ℕ
  part lane = if test lane then Some (address lane) else None

  abbrev put : ℕ → Memory → Memory
  put lane before = elim (part lane) as (λ o. Memory) [ None ↦ before | Some x ↦ with_byte before x (lane_of_word value lane) ]

  abbrev after : ℕ → (ℕ → ℕ) → ℕ → ℕ
  after lane g = with_one (test lane) (at lane) (lane_of_word value lane) g

  after-lt : (lane : ℕ) (g : ℕ → ℕ) → AreBytes g → AreBytes (after lane g)
  after-lt lane g gs = with_one-lt (test lane) (at lane) (lane_of_word value lane) g (lane_of_word-lt value lane) gs

  put-is : (lane : ℕ) → lane < 4 → (g : ℕ → ℕ) → AreBytes g → put lane (with_word_at m k (word_of g)) ≡ with_word_at m k (word_of (after lane g))
  put-is lane below g gs =
      lane-done m k (address lane) (lane_of_word value lane) (at lane) g (test lane) gs (lane_of_word-lt value lane) (inside lane below)

  four-done : with_lanes (with_word_at m k (word_of f)) part value ≡ with_word_at m k (word_of (with_four test at value f))
  four-done =
      let first = after-lt 0 f bytes in
      let second = after-lt 1 (after 0 f) first in
      let third = after-lt 2 (after 1 (after 0 f)) second in
      ap (λ x. put 3 (put 2 (put 1 x))) (put-is 0 (lit< tt) f bytes)
      ∙ ap (λ x. put 3 (put 2 x)) (put-is 1 (lit< tt) (after 0 f) first)
      ∙ ap (put 3) (put-is 2 (lit< tt) (after 1 (after 0 f)) second)
      ∙ put-is 3 (lit< tt) (after 2 (after 1 (after 0 f))) third

-- ---- the left and the right part

-- how many lanes of the word in the guest's order the left part leaves, and how many the right part
abbrev pub left_lanes : Order → ℕ → ℕ
left_lanes Big i = i
left_lanes Little i = 3 - i

abbrev pub right_lanes : Order → ℕ → ℕ
right_lanes Big i = 3 - i
right_lanes Little i = i

-- lanes in the guest's order as they stand in a page
abbrev pub in_page : Order → (ℕ → ℕ) → ℕ → ℕ
in_page Big f = f
in_page Little f = λ n. f (3 - n)

module _ (m : Memory) (a value : ℕ) (f : ℕ → ℕ) (bytes : AreBytes f) where
  pub left-stored : (order : Order) → with_lanes (with_word_at m (a / 4) (word_of f)) (left_part order a) value ≡ with_word_at m (a / 4) (word_of (in_page order (left_bytes (left_lanes order (a % 4)) (in_page order f) (lane_of_word value))))
  left-stored Big =
      four-done m (a / 4) value f bytes (λ lane. nat_lt (a % 4 + lane) 4) (λ lane. a + lane) (λ lane. a % 4 + lane)
      (λ lane below t. let h = ltb-true (a % 4 + lane) 4 t in (omega arith, omega arith))
      ∙ ap (with_word_at m (a / 4)) (below_four (λ i. word_of (with_four (λ lane. nat_lt (i + lane) 4) (λ lane. i + lane) value f) ≡ word_of (left_bytes i f (lane_of_word value))) refl refl refl refl (a % 4) (omega arith))
  left-stored Little =
      four-done m (a / 4) value f bytes (λ lane. nat_le lane (a % 4)) (λ lane. a - lane) (λ lane. a % 4 - lane)
      (λ lane below t. let h = leb-true lane (a % 4) t in (omega arith, omega arith))
      ∙ ap (with_word_at m (a / 4)) (below_four (λ i. word_of (with_four (λ lane. nat_le lane i) (λ lane. i - lane) value f) ≡ word_of (λ n. left_bytes (3 - i) (λ n. f (3 - n)) (lane_of_word value) (3 - n))) refl refl refl refl (a % 4) (omega arith))

  pub right-stored : (order : Order) → with_lanes (with_word_at m (a / 4) (word_of f)) (right_part order a) value ≡ with_word_at m (a / 4) (word_of (in_page order (right_bytes (right_lanes order (a % 4)) (in_page order f) (lane_of_word value))))
  right-stored Big =
      four-done m (a / 4) value f bytes (λ lane. nat_le 3 (a % 4 + lane)) (λ lane. a + lane - 3) (λ lane. a % 4 + lane - 3)
      (λ lane below t. let h = leb-true 3 (a % 4 + lane) t in (omega arith, omega arith))
      ∙ ap (with_word_at m (a / 4)) (below_four (λ i. word_of (with_four (λ lane. nat_le 3 (i + lane)) (λ lane. i + lane - 3) value f) ≡ word_of (right_bytes (3 - i) f (lane_of_word value))) refl refl refl refl (a % 4) (omega arith))
  right-stored Little =
      four-done m (a / 4) value f bytes (λ lane. nat_le (a % 4) lane) (λ lane. a + 3 - lane) (λ lane. a % 4 + 3 - lane)
      (λ lane below t. let h = leb-true (a % 4) lane t in (omega arith, omega arith))
      ∙ ap (with_word_at m (a / 4)) (below_four (λ i. word_of (with_four (λ lane. nat_le i lane) (λ lane. i + 3 - lane) value f) ≡ word_of (λ n. right_bytes i (λ n. f (3 - n)) (lane_of_word value) (3 - n))) refl refl refl refl (a % 4) (omega arith))
