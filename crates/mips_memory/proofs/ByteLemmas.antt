-- Lists of bytes: what is written into one, and the words around a place.
use Rattle.std.proofs.Common.{◌≡◌, ℕ, zero, suc, ◌+◌, ◌-◌, ◌*◌, ◌/◌, ◌%◌, ◌<◌, ◌≤◌, Bool, true, false, ◌==◌, if◌then◌else◌, List, [], ◌∷◌, ◌++◌, length, take, drop, Option, Some, refl, ap, sym, ◌∙◌, arith, IsTrue}
use Rattle.std.specs.Prelude.{slice_index, slice_set}
use Rattle.std.specs.List.{flat_map}
use Rattle.std.specs.Int.{bytes_high_first, bytes_low_first}
use Rattle.std.proofs.lemmas.Bool.{eqb-true, eqb-false}
use Rattle.std.proofs.lemmas.List.{get_or-set_same, get_or-set_other, get_or-append_right, length-set, length-take, length-drop, append-nil}
use Rattle.std.proofs.Math.ListN.{drop_of_length-le}
use Rattle.run_definition.specs.Words.{lane_of_word}
use Rattle.run_definition.specs.declared.order.Order.{Order}
use Rattle.run_definition.specs.declared.order.Order.TheVariants.{Big, Little}
use Rattle.nv_words.proofs.LaneLemmas.{below_four}
use Rattle.mips_definition.specs.Memory.{with_byte, with_word, with_half}
use Rattle.mips_definition.specs.Loads.{load_aligned, loaded_word, store_aligned, memory_stored}
use Rattle.mips_definition.specs.declared.names.load_name.LoadName.{LoadName}
use Rattle.mips_definition.specs.declared.names.store_name.StoreName.{StoreName}
use Rattle.mips_definition.specs.declared.names.store_name.StoreName.TheVariants.{Sw}
use Rattle.mips_memory.specs.OneWord.{one_word}
use Rattle.mips_memory.specs.ByteList.{memory_in}
use Rattle.mips_memory.proofs.LaneForms.{word_stored}
use Rattle.mips_memory.proofs.WordLemmas.{IsWordAt, loaded-at, stored-is}
use borrow.Rule.Slice.PartMut.{put_mid, mid_of}

-- a byte written
set_byte : (bs : List ℕ) (i b : ℕ) → i < length bs → (k : ℕ) (same : Bool) → (k == i) ≡ same
    → Some (slice_index (slice_set bs i b) k) ≡ (if same then Some b else Some (slice_index bs k))
set_byte bs i b h k true t = ap (λ x. Some (slice_index (slice_set bs i b) x)) (eqb-true k i t) ∙ ap Some (get_or-set_same bs i b 0 h)
set_byte bs i b h k false t = ap Some (get_or-set_other bs i k b 0 (eqb-false k i t))

pub memory_in-set : (bs : List ℕ) (i b : ℕ) → i < length bs → memory_in (slice_set bs i b) ≡ with_byte (memory_in bs) i b
memory_in-set bs i b h = ap (λ (f : ℕ → Option ℕ). record (memory_in bs) { byte = f }) (λ j k. set_byte bs i b h k (k == i) refl j)

-- bytes written one behind the other
set_two : (bs : List ℕ) (at a b : ℕ) → suc (suc at) ≤ length bs
    → take at bs ++ (a ∷ b ∷ drop 2 (drop at bs)) ≡ slice_set (slice_set bs at a) (suc at) b
set_two [] at a b h = absurd (omega arith)
set_two (x ∷ []) zero a b h = absurd (omega arith)
set_two (x ∷ y ∷ bs) zero a b h = refl
set_two (x ∷ bs) (suc at) a b h = ap (λ l. x ∷ l) (set_two bs at a b (omega arith))

set_four : (bs : List ℕ) (at a b c d : ℕ) → suc (suc (suc (suc at))) ≤ length bs
    → take at bs ++ (a ∷ b ∷ c ∷ d ∷ drop 4 (drop at bs))
    ≡ slice_set (slice_set (slice_set (slice_set bs at a) (suc at) b) (suc (suc at)) c) (suc (suc (suc at))) d
set_four [] at a b c d h = absurd (omega arith)
set_four (x ∷ []) zero a b c d h = absurd (omega arith)
set_four (x ∷ y ∷ []) zero a b c d h = absurd (omega arith)
set_four (x ∷ y ∷ z ∷ []) zero a b c d h = absurd (omega arith)
set_four (x ∷ y ∷ z ∷ u ∷ bs) zero a b c d h = refl
set_four (x ∷ bs) (suc at) a b c d h = ap (λ l. x ∷ l) (set_four bs at a b c d (omega arith))

mid_spent : (bs : List ℕ) (at n : ℕ) → drop n (mid_of at (at + n - at) bs) ≡ []
mid_spent bs at n =
    let short : length (mid_of at (at + n - at) bs) ≤ n = simp length-take (omega arith) in
    drop_of_length-le (mid_of at (at + n - at) bs) short

pub two_put : (bs ys : List ℕ) (at a b : ℕ) → at + 2 ≤ length bs → ys ≡ a ∷ b ∷ []
    → memory_in (put_mid at (at + 2 - at) bs ys) ≡ with_byte (with_byte (memory_in bs) at a) (at + 1) b
two_put bs ys at a b h e =
    let two : at + 2 - at ≡ 2 = omega arith in
    let one : suc at ≡ at + 1 = omega arith in
    ap (λ n. memory_in (put_mid at n bs ys)) two
    ∙ ap (λ l. memory_in (put_mid at 2 bs l)) e
    ∙ ap memory_in (set_two bs at a b (omega arith))
    ∙ ap (λ n. memory_in (slice_set (slice_set bs at a) n b)) one
    ∙ memory_in-set (slice_set bs at a) (at + 1) b (simp length-set (omega arith))
    ∙ ap (λ m. with_byte m (at + 1) b) (memory_in-set bs at a (omega arith))

pub four_put : (bs ys : List ℕ) (at a b c d : ℕ) → at + 4 ≤ length bs → ys ≡ a ∷ b ∷ c ∷ d ∷ []
    → memory_in (put_mid at (at + 4 - at) bs ys)
    ≡ with_byte (with_byte (with_byte (with_byte (memory_in bs) at a) (at + 1) b) (at + 2) c) (at + 3) d
four_put bs ys at a b c d h e =
    let four : at + 4 - at ≡ 4 = omega arith in
    let one : suc at ≡ at + 1 = omega arith in
    let two : suc (suc at) ≡ at + 2 = omega arith in
    let three : suc (suc (suc at)) ≡ at + 3 = omega arith in
    ap (λ n. memory_in (put_mid at n bs ys)) four
    ∙ ap (λ l. memory_in (put_mid at 4 bs l)) e
    ∙ ap memory_in (set_four bs at a b c d (omega arith))
    ∙ ap (λ n. memory_in (slice_set (slice_set (slice_set (slice_set bs at a) n b) (suc (suc at)) c) (suc (suc (suc at))) d)) one
    ∙ ap (λ n. memory_in (slice_set (slice_set (slice_set (slice_set bs at a) (at + 1) b) n c) (suc (suc (suc at))) d)) two
    ∙ ap (λ n. memory_in (slice_set (slice_set (slice_set (slice_set bs at a) (at + 1) b) (at + 2) c) n d)) three
    ∙ memory_in-set (slice_set (slice_set (slice_set bs at a) (at + 1) b) (at + 2) c) (at + 3) d (simp length-set (omega arith))
    ∙ ap (λ m. with_byte m (at + 3) d) (memory_in-set (slice_set (slice_set bs at a) (at + 1) b) (at + 2) c (simp length-set (omega arith)))
    ∙ ap (λ m. with_byte (with_byte m (at + 2) c) (at + 3) d) (memory_in-set (slice_set bs at a) (at + 1) b (simp length-set (omega arith)))
    ∙ ap (λ m. with_byte (with_byte (with_byte m (at + 1) b) (at + 2) c) (at + 3) d) (memory_in-set bs at a (omega arith))

-- ---- half-words and words put

last_lane : (w : ℕ) → w % 256 ≡ lane_of_word w 3
last_lane w = omega arith

half_lanes : (w : ℕ) → w % 65536 / 256 % 256 ≡ lane_of_word w 2
half_lanes w = omega arith

half_last : (w : ℕ) → w % 65536 % 256 ≡ lane_of_word w 3
half_last w = omega arith

pub half_put-big : (bs ys : List ℕ) (at w : ℕ) → at + 2 ≤ length bs → ys ≡ bytes_high_first 2 (w % 65536) ++ drop 2 (mid_of at (at + 2 - at) bs)
    → memory_in (put_mid at (at + 2 - at) bs ys) ≡ with_half Big (memory_in bs) at w
half_put-big bs ys at w h e =
    two_put bs ys at (lane_of_word w 2) (lane_of_word w 3) h
    (e ∙ ap (λ l. bytes_high_first 2 (w % 65536) ++ l) (mid_spent bs at 2)
    ∙ ap (λ b. b ∷ w % 65536 % 256 ∷ []) (half_lanes w)
    ∙ ap (λ b. lane_of_word w 2 ∷ b ∷ []) (half_last w))

pub half_put-little : (bs ys : List ℕ) (at w : ℕ) → at + 2 ≤ length bs → ys ≡ bytes_low_first 0 2 (w % 65536) ++ drop 2 (mid_of at (at + 2 - at) bs)
    → memory_in (put_mid at (at + 2 - at) bs ys) ≡ with_half Little (memory_in bs) at w
half_put-little bs ys at w h e =
    two_put bs ys at (lane_of_word w 3) (lane_of_word w 2) h
    (e ∙ ap (λ l. bytes_low_first 0 2 (w % 65536) ++ l) (mid_spent bs at 2)
    ∙ ap (λ b. w % 65536 % 256 ∷ b ∷ []) (half_lanes w)
    ∙ ap (λ b. b ∷ lane_of_word w 2 ∷ []) (half_last w))

pub word_put-big : (bs ys : List ℕ) (at w : ℕ) → at + 4 ≤ length bs → ys ≡ bytes_high_first 4 w ++ drop 4 (mid_of at (at + 4 - at) bs)
    → memory_in (put_mid at (at + 4 - at) bs ys) ≡ with_word Big (memory_in bs) at w
word_put-big bs ys at w h e =
    four_put bs ys at (lane_of_word w 0) (lane_of_word w 1) (lane_of_word w 2) (lane_of_word w 3) h
    (e ∙ ap (λ l. bytes_high_first 4 w ++ l) (mid_spent bs at 4)
    ∙ ap (λ b. lane_of_word w 0 ∷ lane_of_word w 1 ∷ lane_of_word w 2 ∷ b ∷ []) (last_lane w))

pub word_put-little : (bs ys : List ℕ) (at w : ℕ) → at + 4 ≤ length bs → ys ≡ bytes_low_first 0 4 w ++ drop 4 (mid_of at (at + 4 - at) bs)
    → memory_in (put_mid at (at + 4 - at) bs ys) ≡ with_word Little (memory_in bs) at w
word_put-little bs ys at w h e =
    four_put bs ys at (lane_of_word w 3) (lane_of_word w 2) (lane_of_word w 1) (lane_of_word w 0) h
    (e ∙ ap (λ l. bytes_low_first 0 4 w ++ l) (mid_spent bs at 4)
    ∙ ap (λ b. b ∷ lane_of_word w 2 ∷ lane_of_word w 1 ∷ lane_of_word w 0 ∷ []) (last_lane w))

-- ---- the bytes of words, one word behind the other

zero_lane : (j : ℕ) → j < 4 → 0 ≡ lane_of_word 0 j
zero_lane j h = below_four (λ j. 0 ≡ lane_of_word 0 j) refl refl refl refl j h

pub byte_of_words : (ws : List ℕ) (j : ℕ) → slice_index (flat_map (bytes_high_first 4) ws) j ≡ lane_of_word (slice_index ws (j / 4)) (j % 4)
byte_of_words [] j = zero_lane (j % 4) (omega arith)
byte_of_words (w ∷ ws) zero = refl
byte_of_words (w ∷ ws) (suc zero) = refl
byte_of_words (w ∷ ws) (suc (suc zero)) = refl
byte_of_words (w ∷ ws) (suc (suc (suc zero))) = last_lane w
byte_of_words (w ∷ ws) (suc (suc (suc (suc j)))) =
    let next : suc (j / 4) ≡ suc (suc (suc (suc j))) / 4 = omega arith in
    let lane : j % 4 ≡ suc (suc (suc (suc j))) % 4 = omega arith in
    byte_of_words ws j
    ∙ ap (λ n. lane_of_word (slice_index (w ∷ ws) n) (j % 4)) next
    ∙ ap (λ k. lane_of_word (slice_index (w ∷ ws) (suc (suc (suc (suc j))) / 4)) k) lane

pub after_put : (bs ys : List ℕ) (at k : ℕ) → at ≤ length bs → slice_index (put_mid at (length bs - at) bs ys) (at + k) ≡ slice_index ys k
after_put bs ys at k h =
    let rest : length (drop at bs) ≤ length bs - at = simp length-drop (omega arith) in
    let long : length (take at bs) ≡ at = simp length-take (omega arith) in
    let back : at + k - at ≡ k = omega arith in
    ap (λ l. slice_index (take at bs ++ (ys ++ l)) (at + k)) (drop_of_length-le (drop at bs) rest)
    ∙ get_or-append_right (take at bs) (ys ++ []) at (at + k) 0 long (omega arith)
    ∙ ap (slice_index (ys ++ [])) back
    ∙ ap (λ (l : List ℕ). slice_index l k) (append-nil ys)

-- ---- the word around a place

module _ (bs : List ℕ) (at word : ℕ) (lanes : (j : ℕ) → j < 4 → slice_index bs (4 * (at / 4) + j) ≡ lane_of_word word j) where
  IsWordAt-around : IsWordAt (memory_in bs) (one_word word) (at / 4)
  IsWordAt-around = record { bytes = λ j h. ap Some (lanes j h) }

  pub loaded_around : (name : LoadName) (order : Order) (old : ℕ) → IsTrue (load_aligned name (at % 4))
      → loaded_word name order (one_word word) (at % 4) old ≡ loaded_word name order (memory_in bs) at old
  loaded_around name order old aligned =
      sym (loaded-at name order (memory_in bs) (one_word word) (at / 4) (at % 4) at old IsWordAt-around (omega arith) (omega arith) aligned)

  pub stored_around : (name : StoreName) (order : Order) (v w : ℕ) → IsTrue (store_aligned name (at % 4))
      → ((j : ℕ) → j < 4 → (memory_stored name order (one_word word) (at % 4) w).byte j ≡ Some (lane_of_word v j))
      → with_word Big (memory_in bs) (at / 4 * 4) v ≡ memory_stored name order (memory_in bs) at w
  stored_around name order v w aligned is =
      sym (stored-is Sw Big (memory_in bs) (one_word word) (at / 4) 0 (at / 4 * 4) v v IsWordAt-around (omega arith) (omega arith) refl (word_stored word v))
      ∙ stored-is name order (memory_in bs) (one_word word) (at / 4) (at % 4) at w v IsWordAt-around (omega arith) (omega arith) aligned is
