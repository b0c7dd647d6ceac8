-- Pages of memory: where bytes stand, and what loads and stores there are.
use Rattle.std.proofs.Common.{◌≡◌, ℕ, ◌+◌, ◌*◌, ◌/◌, ◌%◌, ◌^◌, ◌<◌, ◌≤◌, Bool, true, false, ◌==◌, if◌then◌else◌, List, length, Option, Some, None, refl, ap, sym, ◌∙◌, arith, option_map, IsTrue}
use Rattle.std.specs.Prelude.{slice_index}
use Rattle.std.proofs.lemmas.Bool.{eqb-true, eq-eqb, ne_eqb}
use Rattle.run_definition.specs.Memory.{Memory}
use Rattle.run_definition.specs.declared.order.Order.{Order}
use Rattle.mips_definition.specs.Loads.{load_aligned, loaded_word, store_aligned, memory_stored}
use Rattle.mips_definition.specs.declared.names.load_name.LoadName.{LoadName}
use Rattle.mips_definition.specs.declared.names.store_name.StoreName.{StoreName}
use Rattle.mips_memory.specs.ByteList.{memory_in}
use Rattle.mips_memory.specs.Pages.{Pages, shift_of, entry, cell, memory_of, IsSound}
use Rattle.mips_memory.proofs.WordLemmas.{IsWordAt, Differs, loaded-at, stored-at, load_aligned-at, store_aligned-at}

-- the shift by which a byte has its place
shift_there : (o : Option ℕ) (a i : ℕ) → option_map (λ k. (a + k) % 2 ^ 32) o ≡ Some i → (k : ℕ) × (o ≡ Some k) × ((a + k) % 2 ^ 32 ≡ i)
shift_there None a i e = absurd (cc)
shift_there (Some k) a i e = (k, refl, let f : (a + k) % 2 ^ 32 ≡ i = cc in f)

same_lane : (a k i : ℕ) → k % 4096 ≡ 0 → (a + k) % 2 ^ 32 ≡ i → i % 4 ≡ a % 4
same_lane a k i whole e = omega arith

moved_place : (a k i j : ℕ) → k % 4096 ≡ 0 → (a + k) % 2 ^ 32 ≡ i → j < 4 → (4 * (a / 4) + j + k) % 2 ^ 32 ≡ 4 * (i / 4) + j
moved_place a k i j whole e h = omega arith

both_ways : (s t : Bool) → (s ≡ true → t ≡ true) → (t ≡ true → s ≡ true) → s ≡ t
both_ways true t f g = sym (f refl)
both_ways false true f g = g refl
both_ways false false f g = refl

-- the four bytes of a list, from a multiple of 4 on, that a place is one of
abbrev pub part_at : List ℕ → ℕ → Memory
part_at bs i = record { byte = λ j. Some (slice_index bs (4 * (i / 4) + j)); writable = λ j. true }

IsWordAt-list : (bs : List ℕ) (i : ℕ) → IsWordAt (memory_in bs) (part_at bs i) (i / 4)
IsWordAt-list bs i = record { bytes = λ j h. refl }

split_by : (a k : ℕ) → k ≡ a % 4 → a ≡ 4 * (a / 4) + k
split_by a k e = omega arith

module _ (p : Pages) (sound : IsSound p) (a i : ℕ) (e : cell p a ≡ Some i) where
  lane_there : i % 4 ≡ a % 4
  unfolding cell
  lane_there =
      let at = shift_there (shift_of (entry p (a / 4096))) a i e in
      same_lane a at.0 i (sound.aligned (a / 4096) at.0 at.1) at.2

module _ (p : Pages) (sound : IsSound p) (a i : ℕ) (e : cell p a ≡ Some i) where
  lane : i % 4 ≡ a % 4
  lane = lane_there p sound a i e

  around : (j : ℕ) → j < 4 → cell p (4 * (a / 4) + j) ≡ Some (4 * (i / 4) + j)
  unfolding cell
  around j h =
      let at = shift_there (shift_of (entry p (a / 4096))) a i e in
      let here : (4 * (a / 4) + j) / 4096 ≡ a / 4096 = omega arith in
      ap (λ n. option_map (λ k. (4 * (a / 4) + j + k) % 2 ^ 32) (shift_of (entry p n))) here
      ∙ ap (option_map (λ k. (4 * (a / 4) + j + k) % 2 ^ 32)) at.1
      ∙ ap Some (moved_place a at.0 i j (sound.aligned (a / 4096) at.0 at.1) at.2 h)

  -- the word around a byte stands within the bytes
  pub whole_word : i / 4 * 4 + 4 ≤ length p.bytes
  whole_word = omega (arith, sound.within a i e, sound.whole)

  IsWordAt-page : IsWordAt (memory_of p) (part_at p.bytes i) (a / 4)
  unfolding memory_of
  IsWordAt-page = record { bytes = λ j h. ap (option_map (slice_index p.bytes)) (around j h) }

  -- ---- loads

  load_aligned-moved : (name : LoadName) → load_aligned name a ≡ load_aligned name (i % 4)
  load_aligned-moved name = load_aligned-at name (a / 4) (i % 4) a (split_by a (i % 4) lane)

  pub load_aligned-there : (name : LoadName) → IsTrue (load_aligned name a) → IsTrue (load_aligned name i)
  load_aligned-there name aligned = load_aligned-at name (i / 4) (i % 4) i (split_by i (i % 4) refl) ∙ sym (load_aligned-moved name) ∙ aligned

  -- a load from an address is one from the place of its byte
  pub loaded-there : (name : LoadName) (order : Order) (old : ℕ) → IsTrue (load_aligned name a) → loaded_word name order (memory_in p.bytes) i old ≡ loaded_word name order (memory_of p) a old
  loaded-there name order old aligned =
      let here = sym (load_aligned-moved name) ∙ aligned in
      loaded-at name order (memory_in p.bytes) (part_at p.bytes i) (i / 4) (i % 4) i old (IsWordAt-list p.bytes i) (omega arith) (split_by i (i % 4) refl) here
      ∙ sym (loaded-at name order (memory_of p) (part_at p.bytes i) (a / 4) (i % 4) a old IsWordAt-page (omega arith) (split_by a (i % 4) lane) here)

  -- ---- stores

  store_aligned-moved : (name : StoreName) → store_aligned name a ≡ store_aligned name (i % 4)
  store_aligned-moved name = store_aligned-at name (a / 4) (i % 4) a (split_by a (i % 4) lane)

  pub store_aligned-there : (name : StoreName) → IsTrue (store_aligned name a) → IsTrue (store_aligned name i)
  store_aligned-there name aligned = store_aligned-at name (i / 4) (i % 4) i (split_by i (i % 4) refl) ∙ sym (store_aligned-moved name) ∙ aligned

  word_forth : (x j : ℕ) → cell p x ≡ Some j → x / 4 ≡ a / 4 → j / 4 ≡ i / 4
  word_forth x j f same =
      let split : x ≡ 4 * (a / 4) + x % 4 = omega arith in
      let there : Some j ≡ Some (4 * (i / 4) + x % 4) = sym f ∙ ap (cell p) split ∙ around (x % 4) (omega arith) in
      let is : j ≡ 4 * (i / 4) + x % 4 = cc in
      omega arith

  word_back : (x j : ℕ) → cell p x ≡ Some j → j / 4 ≡ i / 4 → x / 4 ≡ a / 4
  word_back x j f same =
      let split : 4 * (i / 4) + x % 4 ≡ j = omega (arith, lane_there p sound x j f) in
      let is : x ≡ 4 * (a / 4) + x % 4 = sound.apart x (4 * (a / 4) + x % 4) j f (around (x % 4) (omega arith) ∙ ap Some split) in
      omega arith

  -- a byte that is not there is in another word
  other_word : (x : ℕ) → cell p x ≡ None → x / 4 ≡ a / 4 → ⊥
  other_word x f same =
      let split : x ≡ 4 * (a / 4) + x % 4 = omega arith in
      let there : None ≡ Some (4 * (i / 4) + x % 4) = sym f ∙ ap (cell p) split ∙ around (x % 4) (omega arith) in
      cc

  same_word : (x j : ℕ) → cell p x ≡ Some j → (j / 4 == i / 4) ≡ (x / 4 == a / 4)
  same_word x j f =
      both_ways (j / 4 == i / 4) (x / 4 == a / 4)
      (λ t. eq-eqb (x / 4) (a / 4) (word_back x j f (eqb-true (j / 4) (i / 4) t)))
      (λ t. eq-eqb (j / 4) (i / 4) (word_forth x j f (eqb-true (x / 4) (a / 4) t)))

  -- where the word around changed alike, in the list and in the memory
  stored_byte : (inner outer after : Memory) (bs : List ℕ) → Differs (i / 4) (memory_in p.bytes) inner after → Differs (a / 4) (memory_of p) outer after → memory_in bs ≡ inner
      → (x : ℕ) (o : Option ℕ) → cell p x ≡ o → option_map (slice_index bs) (cell p x) ≡ outer.byte x
  unfolding memory_of
  stored_byte inner outer after bs inside there is x None f =
      ap (option_map (slice_index bs)) f
      ∙ sym (there.byte x
      ∙ ap (λ t. if t then after.byte (x % 4) else option_map (slice_index p.bytes) (cell p x)) (ne_eqb (x / 4) (a / 4) (other_word x f))
      ∙ ap (option_map (slice_index p.bytes)) f)
  stored_byte inner outer after bs inside there is x (Some j) f =
      ap (option_map (slice_index bs)) f
      ∙ ap (λ (m : Memory). m.byte j) is
      ∙ inside.byte j
      ∙ ap (λ t. if t then after.byte (j % 4) else Some (slice_index p.bytes j)) (same_word x j f)
      ∙ ap (λ k. if x / 4 == a / 4 then after.byte k else Some (slice_index p.bytes j)) (lane_there p sound x j f)
      ∙ sym (there.byte x ∙ ap (λ o. if x / 4 == a / 4 then after.byte (x % 4) else option_map (slice_index p.bytes) o) f)

  -- a store to the place of a byte is one to its address
  pub stored-there : (name : StoreName) (order : Order) (w : ℕ) (bs : List ℕ) → IsTrue (store_aligned name a) → memory_in bs ≡ memory_stored name order (memory_in p.bytes) i w
      → memory_of (record p { bytes = bs }) ≡ memory_stored name order (memory_of p) a w
  unfolding memory_of cell entry
  stored-there name order w bs aligned is =
      let here = sym (store_aligned-moved name) ∙ aligned in
      let inside = stored-at name order (memory_in p.bytes) (part_at p.bytes i) (i / 4) (i % 4) i w (IsWordAt-list p.bytes i) (omega arith) (split_by i (i % 4) refl) here in
      let there = stored-at name order (memory_of p) (part_at p.bytes i) (a / 4) (i % 4) a w IsWordAt-page (omega arith) (split_by a (i % 4) lane) here in
      ap (λ (f : ℕ → Option ℕ). record (memory_of p) { byte = f }) (λ k x. stored_byte _ _ _ bs inside there is x (cell p x) refl k)
      ∙ ap (λ (g : ℕ → Bool). record (memory_stored name order (memory_of p) a w) { writable = g }) (sym there.writable)

-- pages with other bytes, as many or more, are sound
pub IsSound-longer : (p : Pages) (bs : List ℕ) → length p.bytes ≤ length bs → length bs % 4096 ≡ 0 → IsSound p → IsSound (record p { bytes = bs })
unfolding cell entry
IsSound-longer p bs longer whole s = record {
  size = s.size;
  whole = whole;
  aligned = s.aligned;
  within = λ a i e. omega (arith, longer, s.within a i e);
  apart = s.apart;
}

pub IsSound-bytes : (p : Pages) (bs : List ℕ) → length bs ≡ length p.bytes → IsSound p → IsSound (record p { bytes = bs })
IsSound-bytes p bs same s = IsSound-longer p bs (omega arith) (omega (arith, same, s.whole)) s
