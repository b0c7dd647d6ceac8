-- Loads and stores at the word of a number, from what they are on another memory with the same bytes at 0 to 3.
use Rattle.std.proofs.Common.{◌≡◌, ℕ, ◌+◌, ◌-◌, ◌*◌, ◌/◌, ◌%◌, ◌<◌, ◌≤◌, Bool, true, false, ◌==◌, ◌&&◌, if◌then◌else◌, Option, Some, None, refl, ap, subst, sym, ◌∙◌, ◌⊎◌, inl, inr, arith, nat_lt, nat_le, IsTrue}
use Rattle.std.proofs.lemmas.Bool.{eqb-true, ltb-true, leb-true, lt-ltb, le-leb, and_right, cases_Bool}
use Rattle.std.proofs.lemmas.Bool.Decides.{nat_tests}
use Rattle.run_definition.specs.Memory.{Memory}
use Rattle.run_definition.specs.Words.{lane_of_word, lane_in_order, word_of_bytes, half_of_bytes}
use Rattle.run_definition.specs.declared.order.Order.{Order}
use Rattle.run_definition.specs.declared.order.Order.TheVariants.{Big, Little}
use Rattle.mips_definition.specs.Memory.{byte_at, with_byte, word_at, half_at, left_part, right_part, merged_lane, with_lane, lane_writable}
use Rattle.mips_definition.specs.Arithmetic.{sign_extended}
use Rattle.mips_definition.specs.Loads.{load_aligned, loaded_word, store_aligned, store_allowed, memory_stored}
use Rattle.mips_definition.specs.declared.names.load_name.LoadName.{LoadName}
use Rattle.mips_definition.specs.declared.names.load_name.LoadName.TheVariants.{Lb, Lh, Lwl, Lw, Lbu, Lhu, Lwr}
use Rattle.mips_definition.specs.declared.names.store_name.StoreName.{StoreName}
use Rattle.mips_definition.specs.declared.names.store_name.StoreName.TheVariants.{Sb, Sh, Swl, Sw, Swr}

-- the memory with the word of a number replaced
abbrev pub with_cell : Memory → ℕ → ℕ → Memory
with_cell m n v = record m { byte = λ x. if x / 4 == n then Some (lane_of_word v (x % 4)) else m.byte x }

-- word n of a memory has the bytes of another at 0 to 3
pub record IsWordAt (m part : Memory) (n : ℕ) : Type 0 where
  pub bytes : (j : ℕ) → j < 4 → m.byte (4 * n + j) ≡ part.byte j

-- ---- loads

module _ (m part : Memory) (n k : ℕ) (h : IsWordAt m part n) (small : k < 4) where
  pub byte_there : (a j : ℕ) → a ≡ 4 * n + j → j < 4 → byte_at m a ≡ byte_at part j
  byte_there a j e l = rw e (rw (h.bytes j l) refl)

  place_in_word : (a : ℕ) → a ≡ 4 * n + k → a % 4 ≡ k
  place_in_word a e = omega (arith, e)

  place_here : k % 4 ≡ k
  place_here = omega arith

  right_by : (a l old : ℕ) → l < 4 → a ≡ 4 * n + k → (t : Bool) → nat_le 3 (k + l) ≡ t
      → merged_lane m (λ _. if t then Some (a + l - 3) else None) old l ≡ merged_lane part (λ _. if t then Some (k + l - 3) else None) old l
  right_by a l old below e true t =
      let s : 3 ≤ k + l = leb-true 3 (k + l) t in
      byte_there (a + l - 3) (k + l - 3) (omega (arith, e)) (omega arith)
  right_by a l old below e false t = refl

  -- a lane at its part, where the part in the memory is 4 * n past the part in the one word
  lane_by : (a j l old : ℕ) → a ≡ 4 * n + j → (t : Bool) → (t ≡ true → j < 4)
      → merged_lane m (λ _. if t then Some a else None) old l ≡ merged_lane part (λ _. if t then Some j else None) old l
  lane_by a j l old e true small = byte_there a j e (small refl)
  lane_by a j l old e false small = refl

  -- the same with a part that is there only where a lane is no further than another one
  up_by : (a l old : ℕ) → a ≡ 4 * n + k → (t : Bool) → nat_le l k ≡ t
      → merged_lane m (λ _. if t then Some (a - l) else None) old l ≡ merged_lane part (λ _. if t then Some (k - l) else None) old l
  up_by a l old e true t =
      let s : l ≤ k = leb-true l k t in
      byte_there (a - l) (k - l) (omega (arith, e, s)) (omega (arith, small, s))
  up_by a l old e false t = refl

  left_lane : (order : Order) (a l old : ℕ) → a ≡ 4 * n + k → merged_lane m (left_part order a) old l ≡ merged_lane part (left_part order k) old l
  left_lane Little a l old e =
      ap (λ x. merged_lane m (λ _. if nat_le l x then Some (a - l) else None) old l) (place_in_word a e)
      ∙ up_by a l old e (nat_le l k) refl
      ∙ ap (λ x. merged_lane part (λ _. if nat_le l x then Some (k - l) else None) old l) (sym place_here)
  left_lane Big a l old e =
      ap (λ x. merged_lane m (λ _. if nat_lt (x + l) 4 then Some (a + l) else None) old l) (place_in_word a e)
      ∙ lane_by (a + l) (k + l) l old (omega (arith, e)) (nat_lt (k + l) 4) (ltb-true (k + l) 4)
      ∙ ap (λ x. merged_lane part (λ _. if nat_lt (x + l) 4 then Some (k + l) else None) old l) (sym place_here)

  right_lane : (order : Order) (a l old : ℕ) → l < 4 → a ≡ 4 * n + k → merged_lane m (right_part order a) old l ≡ merged_lane part (right_part order k) old l
  right_lane Little a l old below e =
      ap (λ x. merged_lane m (λ _. if nat_le x l then Some (a + 3 - l) else None) old l) (place_in_word a e)
      ∙ lane_by (a + 3 - l) (k + 3 - l) l old (omega (arith, e, below)) (nat_le k l) (λ t. let s = leb-true k l t in omega (arith, s, below))
      ∙ ap (λ x. merged_lane part (λ _. if nat_le x l then Some (k + 3 - l) else None) old l) (sym place_here)
  right_lane Big a l old below e =
      ap (λ x. merged_lane m (λ _. if nat_le 3 (x + l) then Some (a + l - 3) else None) old l) (place_in_word a e)
      ∙ right_by a l old below e (nat_le 3 (k + l)) refl
      ∙ ap (λ x. merged_lane part (λ _. if nat_le 3 (x + l) then Some (k + l - 3) else None) old l) (sym place_here)

word_from_lanes : (a b c d a' b' c' d' : ℕ) → a ≡ a' → b ≡ b' → c ≡ c' → d ≡ d' → word_of_bytes a b c d ≡ word_of_bytes a' b' c' d'
word_from_lanes a b c d a' b' c' d' e f g h = omega (arith, e, f, g, h)

half_from_bytes : (a b a' b' : ℕ) → a ≡ a' → b ≡ b' → half_of_bytes a b ≡ half_of_bytes a' b'
half_from_bytes a b a' b' e f = omega (arith, e, f)

half_there : (order : Order) (m part : Memory) (n k a : ℕ) → IsWordAt m part n → k < 4 → a ≡ 4 * n + k → IsTrue (k % 2 == 0) → half_at order m a ≡ half_at order part k
half_there Big m part n k a h small e even =
    let two : k % 2 ≡ 0 = eqb-true (k % 2) 0 even in
    half_from_bytes (byte_at m a) (byte_at m (a + 1)) (byte_at part k) (byte_at part (k + 1))
    (byte_there m part n k h small a k e small)
    (byte_there m part n k h small (a + 1) (k + 1) (omega (arith, e)) (omega arith))
half_there Little m part n k a h small e even =
    let two : k % 2 ≡ 0 = eqb-true (k % 2) 0 even in
    half_from_bytes (byte_at m (a + 1)) (byte_at m a) (byte_at part (k + 1)) (byte_at part k)
    (byte_there m part n k h small (a + 1) (k + 1) (omega (arith, e)) (omega arith))
    (byte_there m part n k h small a k e small)

word_there : (order : Order) (m part : Memory) (n k a : ℕ) → IsWordAt m part n → k < 4 → a ≡ 4 * n + k → IsTrue (k % 4 == 0) → word_at order m a ≡ word_at order part k
word_there Big m part n k a h small e aligned =
    let four : k % 4 ≡ 0 = eqb-true (k % 4) 0 aligned in
    word_from_lanes (byte_at m a) (byte_at m (a + 1)) (byte_at m (a + 2)) (byte_at m (a + 3)) (byte_at part k) (byte_at part (k + 1)) (byte_at part (k + 2)) (byte_at part (k + 3))
    (byte_there m part n k h small a k e small)
    (byte_there m part n k h small (a + 1) (k + 1) (omega (arith, e)) (omega arith))
    (byte_there m part n k h small (a + 2) (k + 2) (omega (arith, e)) (omega arith))
    (byte_there m part n k h small (a + 3) (k + 3) (omega (arith, e)) (omega arith))
word_there Little m part n k a h small e aligned =
    let four : k % 4 ≡ 0 = eqb-true (k % 4) 0 aligned in
    word_from_lanes (byte_at m (a + 3)) (byte_at m (a + 2)) (byte_at m (a + 1)) (byte_at m a) (byte_at part (k + 3)) (byte_at part (k + 2)) (byte_at part (k + 1)) (byte_at part k)
    (byte_there m part n k h small (a + 3) (k + 3) (omega (arith, e)) (omega arith))
    (byte_there m part n k h small (a + 2) (k + 2) (omega (arith, e)) (omega arith))
    (byte_there m part n k h small (a + 1) (k + 1) (omega (arith, e)) (omega arith))
    (byte_there m part n k h small a k e small)

-- a load reads the one word that its address lies in
pub loaded-at : (name : LoadName) (order : Order) (m part : Memory) (n k a old : ℕ) → IsWordAt m part n → k < 4 → a ≡ 4 * n + k → IsTrue (load_aligned name k)
    → loaded_word name order m a old ≡ loaded_word name order part k old
loaded-at Lb order m part n k a old h small e aligned = ap (sign_extended 8) (byte_there m part n k h small a k e small)
loaded-at Lh order m part n k a old h small e aligned = ap (sign_extended 16) (half_there order m part n k a h small e aligned)
loaded-at Lwl order m part n k a old h small e aligned =
    word_from_lanes _ _ _ _ _ _ _ _ (left_lane m part n k h small order a 0 old e) (left_lane m part n k h small order a 1 old e) (left_lane m part n k h small order a 2 old e) (left_lane m part n k h small order a 3 old e)
loaded-at Lw order m part n k a old h small e aligned = word_there order m part n k a h small e aligned
loaded-at Lbu order m part n k a old h small e aligned = byte_there m part n k h small a k e small
loaded-at Lhu order m part n k a old h small e aligned = half_there order m part n k a h small e aligned
loaded-at Lwr order m part n k a old h small e aligned =
    word_from_lanes _ _ _ _ _ _ _ _ (right_lane m part n k h small order a 0 old (omega arith) e) (right_lane m part n k h small order a 1 old (omega arith) e) (right_lane m part n k h small order a 2 old (omega arith) e) (right_lane m part n k h small order a 3 old (omega arith) e)

-- ---- stores

-- `now` is the memory `first` but for its word n, whose bytes are those of `part` at 0 to 3
pub record Differs (n : ℕ) (first now part : Memory) : Type 0 where
  pub byte : (x : ℕ) → now.byte x ≡ (if x / 4 == n then part.byte (x % 4) else first.byte x)
  pub writable : now.writable ≡ first.writable

Differs-start : (m part : Memory) (n : ℕ) → IsWordAt m part n → Differs n m m part
Differs-start m part n h = record { byte = λ x. start_byte x (x / 4 == n) refl; writable = refl }
  where
    start_byte : (x : ℕ) (same : Bool) → (x / 4 == n) ≡ same → m.byte x ≡ (if same then part.byte (x % 4) else m.byte x)
    start_byte x true t =
        let q : x / 4 ≡ n = eqb-true (x / 4) n t in
        let e : x ≡ 4 * n + x % 4 = omega arith in
        ap m.byte e ∙ h.bytes (x % 4) (omega arith)
    start_byte x false t = refl

byte_put : (o p : Option ℕ) (f : Option ℕ) (n j b x a : ℕ) → a ≡ 4 * n + j → j < 4 → o ≡ (if x / 4 == n then p else f)
    → (if x == a then Some b else o) ≡ (if x / 4 == n then (if x % 4 == j then Some b else p) else f)
byte_put o p f n j b x a e small h = grind (arith, nat_tests)

Differs-byte : (n : ℕ) (first now part : Memory) (j b a : ℕ) → a ≡ 4 * n + j → j < 4 → Differs n first now part → Differs n first (with_byte now a b) (with_byte part j b)
Differs-byte n first now part j b a e small d = record {
  byte = λ x. byte_put (now.byte x) (part.byte (x % 4)) (first.byte x) n j b x a e small (d.byte x);
  writable = d.writable;
}

-- the bytes of a part stored
module _ (n k : ℕ) (first : Memory) (small : k < 4) where
  lane_put : (now part : Memory) (a j l w : ℕ) → a ≡ 4 * n + j → (t : Bool) → (t ≡ true → j < 4) → Differs n first now part
      → Differs n first (with_lane now (λ _. if t then Some a else None) w l) (with_lane part (λ _. if t then Some j else None) w l)
  lane_put now part a j l w e true below d = Differs-byte n first now part j (lane_of_word w l) a e (below refl) d
  lane_put now part a j l w e false below d = d

  up_by_put : (now part : Memory) (a l w : ℕ) → a ≡ 4 * n + k → (t : Bool) → nat_le l k ≡ t → Differs n first now part
      → Differs n first (with_lane now (λ _. if t then Some (a - l) else None) w l) (with_lane part (λ _. if t then Some (k - l) else None) w l)
  up_by_put now part a l w e true t d =
      let s : l ≤ k = leb-true l k t in
      Differs-byte n first now part (k - l) (lane_of_word w l) (a - l) (omega (arith, e, s)) (omega (arith, small, s)) d
  up_by_put now part a l w e false t d = d

  left_put : (order : Order) (now part : Memory) (a l w : ℕ) → a ≡ 4 * n + k → Differs n first now part
      → Differs n first (with_lane now (left_part order a) w l) (with_lane part (left_part order k) w l)
  left_put Little now part a l w e d =
      let p : a % 4 ≡ k = omega (arith, e) in
      let q : k % 4 ≡ k = omega arith in
      subst (λ x. Differs n first (with_lane now (λ _. if nat_le l x then Some (a - l) else None) w l) (with_lane part (left_part Little k) w l)) (sym p)
      (subst (λ x. Differs n first (with_lane now (λ _. if nat_le l k then Some (a - l) else None) w l) (with_lane part (λ _. if nat_le l x then Some (k - l) else None) w l)) (sym q)
      (up_by_put now part a l w e (nat_le l k) refl d))
  left_put Big now part a l w e d =
      let p : a % 4 ≡ k = omega (arith, e) in
      let q : k % 4 ≡ k = omega arith in
      subst (λ x. Differs n first (with_lane now (λ _. if nat_lt (x + l) 4 then Some (a + l) else None) w l) (with_lane part (left_part Big k) w l)) (sym p)
      (subst (λ x. Differs n first (with_lane now (λ _. if nat_lt (k + l) 4 then Some (a + l) else None) w l) (with_lane part (λ _. if nat_lt (x + l) 4 then Some (k + l) else None) w l)) (sym q)
      (lane_put now part (a + l) (k + l) l w (omega (arith, e)) (nat_lt (k + l) 4) (ltb-true (k + l) 4) d))

  right_by_put : (now part : Memory) (a l w : ℕ) → l < 4 → a ≡ 4 * n + k → (t : Bool) → nat_le 3 (k + l) ≡ t → Differs n first now part
      → Differs n first (with_lane now (λ _. if t then Some (a + l - 3) else None) w l) (with_lane part (λ _. if t then Some (k + l - 3) else None) w l)
  right_by_put now part a l w below e true t d =
      let s : 3 ≤ k + l = leb-true 3 (k + l) t in
      Differs-byte n first now part (k + l - 3) (lane_of_word w l) (a + l - 3) (omega (arith, e)) (omega arith) d
  right_by_put now part a l w below e false t d = d

  right_put : (order : Order) (now part : Memory) (a l w : ℕ) → l < 4 → a ≡ 4 * n + k → Differs n first now part
      → Differs n first (with_lane now (right_part order a) w l) (with_lane part (right_part order k) w l)
  right_put Little now part a l w below e d =
      let p : a % 4 ≡ k = omega (arith, e) in
      let q : k % 4 ≡ k = omega arith in
      subst (λ x. Differs n first (with_lane now (λ _. if nat_le x l then Some (a + 3 - l) else None) w l) (with_lane part (right_part Little k) w l)) (sym p)
      (subst (λ x. Differs n first (with_lane now (λ _. if nat_le k l then Some (a + 3 - l) else None) w l) (with_lane part (λ _. if nat_le x l then Some (k + 3 - l) else None) w l)) (sym q)
      (lane_put now part (a + 3 - l) (k + 3 - l) l w (omega (arith, e, below)) (nat_le k l) (λ t. let s = leb-true k l t in omega (arith, s, below)) d))
  right_put Big now part a l w below e d =
      let p : a % 4 ≡ k = omega (arith, e) in
      let q : k % 4 ≡ k = omega arith in
      subst (λ x. Differs n first (with_lane now (λ _. if nat_le 3 (x + l) then Some (a + l - 3) else None) w l) (with_lane part (right_part Big k) w l)) (sym p)
      (subst (λ x. Differs n first (with_lane now (λ _. if nat_le 3 (k + l) then Some (a + l - 3) else None) w l) (with_lane part (λ _. if nat_le 3 (x + l) then Some (k + l - 3) else None) w l)) (sym q)
      (right_by_put now part a l w below e (nat_le 3 (k + l)) refl d))

-- a store changes the one word that its address lies in
half_stored-at : (order : Order) (m part : Memory) (n k a w : ℕ) → IsWordAt m part n → k < 4 → a ≡ 4 * n + k → IsTrue (k % 2 == 0)
    → Differs n m (memory_stored Sh order m a w) (memory_stored Sh order part k w)
half_stored-at Big m part n k a w h small e aligned =
    let two : k % 2 ≡ 0 = eqb-true (k % 2) 0 aligned in
    Differs-byte n m _ _ (k + 1) (lane_of_word w 3) (a + 1) (omega (arith, e)) (omega arith)
    (Differs-byte n m m part k (lane_of_word w 2) a e small (Differs-start m part n h))
half_stored-at Little m part n k a w h small e aligned =
    let two : k % 2 ≡ 0 = eqb-true (k % 2) 0 aligned in
    Differs-byte n m _ _ (k + 1) (lane_of_word w 2) (a + 1) (omega (arith, e)) (omega arith)
    (Differs-byte n m m part k (lane_of_word w 3) a e small (Differs-start m part n h))

pub stored-at : (name : StoreName) (order : Order) (m part : Memory) (n k a w : ℕ) → IsWordAt m part n → k < 4 → a ≡ 4 * n + k → IsTrue (store_aligned name k)
    → Differs n m (memory_stored name order m a w) (memory_stored name order part k w)
stored-at Sb order m part n k a w h small e aligned = Differs-byte n m m part k (lane_of_word w 3) a e small (Differs-start m part n h)
stored-at Sh order m part n k a w h small e aligned = half_stored-at order m part n k a w h small e aligned
stored-at Swl order m part n k a w h small e aligned =
    left_put n k m small order _ _ a 3 w e (left_put n k m small order _ _ a 2 w e (left_put n k m small order _ _ a 1 w e (left_put n k m small order m part a 0 w e (Differs-start m part n h))))
stored-at Sw order m part n k a w h small e aligned =
    let four : k % 4 ≡ 0 = eqb-true (k % 4) 0 aligned in
    Differs-byte n m _ _ (k + 3) (lane_in_order order w 3) (a + 3) (omega (arith, e)) (omega arith)
    (Differs-byte n m _ _ (k + 2) (lane_in_order order w 2) (a + 2) (omega (arith, e)) (omega arith)
    (Differs-byte n m _ _ (k + 1) (lane_in_order order w 1) (a + 1) (omega (arith, e)) (omega arith)
    (Differs-byte n m m part k (lane_in_order order w 0) a e small (Differs-start m part n h))))
stored-at Swr order m part n k a w h small e aligned =
    right_put n k m small order _ _ a 3 w (omega arith) e (right_put n k m small order _ _ a 2 w (omega arith) e (right_put n k m small order _ _ a 1 w (omega arith) e (right_put n k m small order m part a 0 w (omega arith) e (Differs-start m part n h))))

-- so it is the memory with that word replaced, by one that has the lanes of the store on the word alone
pub stored-is : (name : StoreName) (order : Order) (m part : Memory) (n k a w v : ℕ) → IsWordAt m part n → k < 4 → a ≡ 4 * n + k → IsTrue (store_aligned name k)
    → ((j : ℕ) → j < 4 → (memory_stored name order part k w).byte j ≡ Some (lane_of_word v j))
    → with_cell m n v ≡ memory_stored name order m a w
stored-is name order m part n k a w v h small e aligned lanes =
    let d = stored-at name order m part n k a w h small e aligned in
    let bytes : (x : ℕ) → (with_cell m n v).byte x ≡ (memory_stored name order m a w).byte x =
    λ x. ap (λ b. if x / 4 == n then b else m.byte x) (sym (lanes (x % 4) (omega arith))) ∙ sym (d.byte x) in
    ap (λ (f : ℕ → Option ℕ). record m { byte = f }) (λ i x. bytes x i)
    ∙ ap (λ (g : ℕ → Bool). record (memory_stored name order m a w) { writable = g }) (sym d.writable)

-- ---- what may be written

-- all bytes of word n may be written, or none
pub record IsAllowedAt (m : Memory) (n : ℕ) (b : Bool) : Type 0 where
  pub lanes : (j : ℕ) → j < 4 → m.writable (4 * n + j) ≡ b

-- b and further tests that are b, or true
all_same : (b x y z : Bool) → ((x ≡ b) ⊎ (x ≡ true)) → ((y ≡ b) ⊎ (y ≡ true)) → ((z ≡ b) ⊎ (z ≡ true)) → (b && x && y && z) ≡ b
all_same true x y z f g h = rw (both_true x f, both_true y g, both_true z h) refl
  where
    both_true : (x : Bool) → ((x ≡ true) ⊎ (x ≡ true)) → x ≡ true
    both_true x (inl e) = e
    both_true x (inr e) = e
all_same false x y z f g h = refl

all_same_but_last : (b x y z : Bool) → ((x ≡ b) ⊎ (x ≡ true)) → ((y ≡ b) ⊎ (y ≡ true)) → ((z ≡ b) ⊎ (z ≡ true)) → (x && y && z && b) ≡ b
all_same_but_last true x y z f g h = rw (both_true x f, both_true y g, both_true z h) refl
  where
    both_true : (x : Bool) → ((x ≡ true) ⊎ (x ≡ true)) → x ≡ true
    both_true x (inl e) = e
    both_true x (inr e) = e
all_same_but_last false x y z f g h = and_right (x && y && z) false refl

two_same : (b : Bool) → (b && (b && true)) ≡ b
two_same true = refl
two_same false = refl

four_same : (b : Bool) → (b && (b && (b && (b && true)))) ≡ b
four_same true = refl
four_same false = refl

module _ (m : Memory) (n k : ℕ) (b : Bool) (h : IsAllowedAt m n b) (small : k < 4) where
  allowed_there : (a j : ℕ) → a ≡ 4 * n + j → j < 4 → m.writable a ≡ b
  allowed_there a j e l = ap m.writable e ∙ h.lanes j l

  lane_by_test : (a j l : ℕ) → a ≡ 4 * n + j → (t : Bool) → (t ≡ true → j < 4) → ((lane_writable m (λ _. if t then Some a else None) l ≡ b) ⊎ (lane_writable m (λ _. if t then Some a else None) l ≡ true))
  lane_by_test a j l e true below = inl (allowed_there a j e (below refl))
  lane_by_test a j l e false below = inr refl

  left_allowed : (order : Order) (a l : ℕ) → a ≡ 4 * n + k → ((lane_writable m (left_part order a) l ≡ b) ⊎ (lane_writable m (left_part order a) l ≡ true))
  left_allowed Little a l e = elim (cases_Bool (nat_le l (a % 4))) [
    | inl t ↦ let s = leb-true l (a % 4) t in inl (ap (λ x. lane_writable m (λ _. if x then Some (a - l) else None) l) t ∙ allowed_there (a - l) (k - l) (omega (arith, e, s)) (omega (arith, small, s)))
    | inr f ↦ inr (ap (λ x. lane_writable m (λ _. if x then Some (a - l) else None) l) f)
  ]
  left_allowed Big a l e = lane_by_test (a + l) (k + l) l (omega (arith, e)) (nat_lt (a % 4 + l) 4) (λ t. let s = ltb-true (a % 4 + l) 4 t in omega (arith, e))

  left_first : (order : Order) (a : ℕ) → a ≡ 4 * n + k → lane_writable m (left_part order a) 0 ≡ b
  left_first Little a e =
      let t : nat_le 0 (a % 4) ≡ true = le-leb 0 (a % 4) (omega arith) in
      ap (λ x. lane_writable m (λ _. if x then Some (a - 0) else None) 0) t ∙ allowed_there (a - 0) k (omega (arith, e)) small
  left_first Big a e =
      let t : nat_lt (a % 4 + 0) 4 ≡ true = lt-ltb (a % 4 + 0) 4 (omega arith) in
      ap (λ x. lane_writable m (λ _. if x then Some (a + 0) else None) 0) t ∙ allowed_there (a + 0) k (omega (arith, e)) small

  right_allowed : (order : Order) (a l : ℕ) → l < 4 → a ≡ 4 * n + k → ((lane_writable m (right_part order a) l ≡ b) ⊎ (lane_writable m (right_part order a) l ≡ true))
  right_allowed Little a l below e = lane_by_test (a + 3 - l) (k + 3 - l) l (omega (arith, e, below)) (nat_le (a % 4) l) (λ t. let s = leb-true (a % 4) l t in omega (arith, e, s, below))
  right_allowed Big a l below e = elim (cases_Bool (nat_le 3 (a % 4 + l))) [
    | inl t ↦ let s = leb-true 3 (a % 4 + l) t in inl (ap (λ x. lane_writable m (λ _. if x then Some (a + l - 3) else None) l) t ∙ allowed_there (a + l - 3) (k + l - 3) (omega (arith, e)) (omega arith))
    | inr f ↦ inr (ap (λ x. lane_writable m (λ _. if x then Some (a + l - 3) else None) l) f)
  ]

  right_last : (order : Order) (a : ℕ) → a ≡ 4 * n + k → lane_writable m (right_part order a) 3 ≡ b
  right_last Little a e =
      let t : nat_le (a % 4) 3 ≡ true = le-leb (a % 4) 3 (omega arith) in
      ap (λ x. lane_writable m (λ _. if x then Some (a + 3 - 3) else None) 3) t ∙ allowed_there (a + 3 - 3) k (omega (arith, e)) small
  right_last Big a e =
      let t : nat_le 3 (a % 4 + 3) ≡ true = le-leb 3 (a % 4 + 3) (omega arith) in
      ap (λ x. lane_writable m (λ _. if x then Some (a + 3 - 3) else None) 3) t ∙ allowed_there (a + 3 - 3) k (omega (arith, e)) small

-- b and tests that are b
pub store_allowed-at : (name : StoreName) (order : Order) (m : Memory) (n k a : ℕ) (b : Bool) → IsAllowedAt m n b → k < 4 → a ≡ 4 * n + k → IsTrue (store_aligned name k) → store_allowed name order m a ≡ b
store_allowed-at Sb order m n k a b h small e aligned = allowed_there m n k b h small a k e small
store_allowed-at Sh order m n k a b h small e aligned =
    let two : k % 2 ≡ 0 = eqb-true (k % 2) 0 aligned in
    rw (allowed_there m n k b h small a k e small, allowed_there m n k b h small (a + 1) (k + 1) (omega (arith, e)) (omega arith)) (two_same b)
store_allowed-at Swl order m n k a b h small e aligned =
    rw (left_first m n k b h small order a e) (all_same b _ _ _ (left_allowed m n k b h small order a 1 e) (left_allowed m n k b h small order a 2 e) (left_allowed m n k b h small order a 3 e))
store_allowed-at Sw order m n k a b h small e aligned =
    let four : k % 4 ≡ 0 = eqb-true (k % 4) 0 aligned in
    rw (allowed_there m n k b h small a k e small, allowed_there m n k b h small (a + 1) (k + 1) (omega (arith, e)) (omega arith), allowed_there m n k b h small (a + 1 + 1) (k + 2) (omega (arith, e)) (omega arith), allowed_there m n k b h small (a + 1 + 1 + 1) (k + 3) (omega (arith, e)) (omega arith)) (four_same b)
store_allowed-at Swr order m n k a b h small e aligned =
    rw (right_last m n k b h small order a e) (all_same_but_last b _ _ _ (right_allowed m n k b h small order a 0 (omega arith) e) (right_allowed m n k b h small order a 1 (omega arith) e) (right_allowed m n k b h small order a 2 (omega arith) e))

-- alignment is a matter of the place in the word
pub load_aligned-at : (name : LoadName) (n k a : ℕ) → a ≡ 4 * n + k → load_aligned name a ≡ load_aligned name k
load_aligned-at Lb n k a e = refl
load_aligned-at Lh n k a e = let p : a % 2 ≡ k % 2 = omega (arith, e) in ap (λ x. x == 0) p
load_aligned-at Lwl n k a e = refl
load_aligned-at Lw n k a e = let p : a % 4 ≡ k % 4 = omega (arith, e) in ap (λ x. x == 0) p
load_aligned-at Lbu n k a e = refl
load_aligned-at Lhu n k a e = let p : a % 2 ≡ k % 2 = omega (arith, e) in ap (λ x. x == 0) p
load_aligned-at Lwr n k a e = refl

pub store_aligned-at : (name : StoreName) (n k a : ℕ) → a ≡ 4 * n + k → store_aligned name a ≡ store_aligned name k
store_aligned-at Sb n k a e = refl
store_aligned-at Sh n k a e = let p : a % 2 ≡ k % 2 = omega (arith, e) in ap (λ x. x == 0) p
store_aligned-at Swl n k a e = refl
store_aligned-at Sw n k a e = let p : a % 4 ≡ k % 4 = omega (arith, e) in ap (λ x. x == 0) p
store_aligned-at Swr n k a e = refl
