-- A store is allowed where its first byte may be written, since the bytes of a word may be written or not as one.
use Rattle.std.proofs.Common.{◌≡◌, ℕ, ◌+◌, ◌-◌, ◌/◌, ◌%◌, ◌<◌, nat_lt, nat_le, ◌&&◌, Bool, true, false, if◌then◌else◌, Some, None, refl, ap, ◌∙◌, arith, lit<}
use Rattle.std.proofs.lemmas.Bool.{lt-ltb, le-leb, ltb-true, leb-true, eqb-true}
use Rattle.run_definition.specs.declared.order.Order.{Order}
use Rattle.run_definition.specs.declared.order.Order.TheVariants.{Big, Little}
use Rattle.run_definition.specs.Memory.{Memory, can_write}
use Rattle.mips_definition.specs.Memory.{left_part, right_part, lane_writable, lanes_writable}
use Rattle.mips_definition.specs.Loads.{store_aligned, store_allowed}
use Rattle.mips_definition.specs.declared.names.store_name.StoreName.{StoreName}
use Rattle.mips_definition.specs.declared.names.store_name.StoreName.TheVariants.{Sb, Sh, Swl, Sw, Swr}

two-same : (b : Bool) → (b && (b && true)) ≡ b
two-same true = refl
two-same false = refl

four-same : (b : Bool) → (b && (b && (b && (b && true)))) ≡ b
four-same true = refl
four-same false = refl

-- which lanes are part of an access
left_test : Order → ℕ → ℕ → Bool
left_test Big a lane = nat_lt (a % 4 + lane) 4
left_test Little a lane = nat_le lane (a % 4)

right_test : Order → ℕ → ℕ → Bool
right_test Big a lane = nat_le 3 (a % 4 + lane)
right_test Little a lane = nat_le (a % 4) lane

left_first : (order : Order) (a : ℕ) → left_test order a 0 ≡ true
unfolding left_test
left_first Big a = lt-ltb (a % 4 + 0) 4 (omega arith)
left_first Little a = le-leb 0 (a % 4) (omega arith)

right_last : (order : Order) (a : ℕ) → right_test order a 3 ≡ true
unfolding right_test
right_last Big a = le-leb 3 (a % 4 + 3) (omega arith)
right_last Little a = le-leb (a % 4) 3 (omega arith)

either-true : (t : Bool) → ◌≡◌ {A = Bool} (if t then true else true) true
either-true true = refl
either-true false = refl

and-false : (x : Bool) → (x && false) ≡ false
and-false true = refl
and-false false = refl

first-decides : (b s t u : Bool) → (b && (if s then b else true) && (if t then b else true) && (if u then b else true)) ≡ b
first-decides true s t u = simp either-true refl
first-decides false s t u = refl

last-decides : (b s t u : Bool) → ((if s then b else true) && (if t then b else true) && (if u then b else true) && b) ≡ b
last-decides true s t u = simp either-true refl
last-decides false s t u = simp and-false refl

module _ (memory : Memory) (a : ℕ) (same : (x : ℕ) → x / 4 ≡ a / 4 → memory.writable x ≡ memory.writable a) where
  pub allowed-half : a % 2 ≡ 0 → can_write memory a 2 ≡ memory.writable a
  allowed-half aligned =
      ap (λ b. memory.writable a && (b && true)) (same (a + 1) (omega arith)) ∙ two-same (memory.writable a)

  pub allowed-word : a % 4 ≡ 0 → can_write memory a 4 ≡ memory.writable a
  allowed-word aligned =
      simp (same (a + 1) (omega arith), same (a + 1 + 1) (omega arith), same (a + 1 + 1 + 1) (omega arith)) (four-same (memory.writable a))

  -- ---- parts of words

  one-lane : (t : Bool) (x : ℕ) → (t ≡ true → x / 4 ≡ a / 4) → ◌≡◌ {A = Bool} (elim (if t then Some x else None) as (λ o. Bool) [ None ↦ true | Some y ↦ memory.writable y ]) (if t then memory.writable a else true)
  one-lane true x within = same x (within refl)
  one-lane false x within = refl

  -- where the lane is part of the access, its byte is in the word
  left-lane : (order : Order) (lane : ℕ) → lane_writable memory (left_part order a) lane ≡ (if left_test order a lane then memory.writable a else true)
  unfolding left_test
  left-lane Big lane = one-lane (nat_lt (a % 4 + lane) 4) (a + lane) (λ t. let h = ltb-true (a % 4 + lane) 4 t in omega arith)
  left-lane Little lane = one-lane (nat_le lane (a % 4)) (a - lane) (λ t. let h = leb-true lane (a % 4) t in omega arith)

  right-lane : (order : Order) (lane : ℕ) → lane < 4 → lane_writable memory (right_part order a) lane ≡ (if right_test order a lane then memory.writable a else true)
  unfolding right_test
  right-lane Big lane below = one-lane (nat_le 3 (a % 4 + lane)) (a + lane - 3) (λ t. let h = leb-true 3 (a % 4 + lane) t in omega arith)
  right-lane Little lane below = one-lane (nat_le (a % 4) lane) (a + 3 - lane) (λ t. let h = leb-true (a % 4) lane t in omega arith)

  pub allowed-left : (order : Order) → lanes_writable memory (left_part order a) ≡ memory.writable a
  allowed-left order =
      simp (left-lane order 0, left-lane order 1, left-lane order 2, left-lane order 3, left_first order a) (first-decides (memory.writable a) (left_test order a 1) (left_test order a 2) (left_test order a 3))

  pub allowed-right : (order : Order) → lanes_writable memory (right_part order a) ≡ memory.writable a
  allowed-right order =
      simp (right-lane order 0 (lit< tt), right-lane order 1 (lit< tt), right-lane order 2 (lit< tt), right-lane order 3 (lit< tt), right_last order a) (last-decides (memory.writable a) (right_test order a 0) (right_test order a 1) (right_test order a 2))

pub allowed-is : (name : StoreName) (order : Order) (memory : Memory) (a : ℕ) → ((x : ℕ) → x / 4 ≡ a / 4 → memory.writable x ≡ memory.writable a) → store_aligned name a ≡ true → store_allowed name order memory a ≡ memory.writable a
allowed-is Sb order memory a same aligned = refl
allowed-is Sh order memory a same aligned = allowed-half memory a same (eqb-true (a % 2) 0 aligned)
allowed-is Swl order memory a same aligned = allowed-left memory a same order
allowed-is Sw order memory a same aligned = allowed-word memory a same (eqb-true (a % 4) 0 aligned)
allowed-is Swr order memory a same aligned = allowed-right memory a same order
