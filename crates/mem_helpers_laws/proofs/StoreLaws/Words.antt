-- A whole word that the guest stores is the word of memory there.
use Rattle.std.proofs.Common.{◌≡◌, ℕ, ◌+◌, ◌/◌, ◌%◌, ◌<◌, Some, ap, subst, sym, ◌∙◌, arith}
use Rattle.run_definition.specs.Words.{IsWord, lane_of_word}
use Rattle.run_definition.specs.declared.order.Order.{Order}
use Rattle.run_definition.specs.declared.order.Order.TheVariants.{Big, Little}
use Rattle.nv_words.proofs.LaneLemmas.{lane_of_word-lt, lane_of_word-of_bytes}
use Rattle.run_definition.specs.Memory.{Memory}
use Rattle.mips_definition.specs.Memory.{with_byte, with_word, word_of_lanes}
use Rattle.jvm_definition.specs.Values.{Heap, with_int}
use Rattle.emit_layout.specs.FieldNumbers.{page_count}
use Rattle.emit_simulation_laws.specs.Match.{HoldsMemory}
use Rattle.emit_simulation_laws.specs.Memory.{with_word_at}
use Rattle.emit_simulation_laws.proofs.Stores.{HoldsMemory-word, with_word-at}

-- four bytes from an address on
abbrev four_bytes : Memory → ℕ → ℕ → ℕ → ℕ → ℕ → Memory
four_bytes m a p q r s = with_byte (with_byte (with_byte (with_byte m a p) (a + 1) q) (a + 2) r) (a + 3) s

little-is : (m : Memory) (a w : ℕ) → with_word Little m a w ≡ with_word Big m a (word_of_lanes Little w)
little-is m a w =
    let lanes = lane_of_word-of_bytes (lane_of_word w 3) (lane_of_word w 2) (lane_of_word w 1) (lane_of_word w 0) (lane_of_word-lt w 3) (lane_of_word-lt w 2) (lane_of_word-lt w 1) (lane_of_word-lt w 0) in
    let v = word_of_lanes Little w in
    ap (λ x. four_bytes m a x (lane_of_word w 2) (lane_of_word w 1) (lane_of_word w 0)) (sym lanes.0)
    ∙ ap (λ x. four_bytes m a (lane_of_word v 0) x (lane_of_word w 1) (lane_of_word w 0)) (sym lanes.1)
    ∙ ap (λ x. four_bytes m a (lane_of_word v 0) (lane_of_word v 1) x (lane_of_word w 0)) (sym lanes.2)
    ∙ ap (λ x. four_bytes m a (lane_of_word v 0) (lane_of_word v 1) (lane_of_word v 2) x) (sym lanes.3)

pub whole-word : (order : Order) (m : Memory) (a w : ℕ) → a % 4 ≡ 0 → with_word_at m (a / 4) (word_of_lanes order w) ≡ with_word order m a w
whole-word Big m a w aligned = sym (with_word-at m a w aligned)
whole-word Little m a w aligned = sym (little-is m a w ∙ with_word-at m a (word_of_lanes Little w) aligned)

pub IsWord-of_lanes : (order : Order) (w : ℕ) → IsWord w → IsWord (word_of_lanes order w)
IsWord-of_lanes Big w word = word
IsWord-of_lanes Little w word = omega arith

-- a word that is stored in its page keeps the memory held
pub store-kept : (heap : Heap) (readable writable : ℕ) (memory after : Memory) (h : HoldsMemory heap readable writable memory) (a p u v : ℕ) → a / 4096 < page_count → h.writable_pages (a / 4096) ≡ Some p → u ≡ v → IsWord v → with_word_at memory (a / 4) v ≡ after → HoldsMemory (with_int heap p (a / 4 % 1024) u) readable writable after
store-kept heap readable writable memory after h a p u v within here same word is =
    let number : a / 4 / 1024 ≡ a / 4096 = omega arith in
    let kept = HoldsMemory-word heap readable writable memory h (a / 4) p v (omega (arith, within)) (ap h.writable_pages number ∙ here) word in
    subst (λ (m : Memory). HoldsMemory (with_int heap p (a / 4 % 1024) u) readable writable m) is
    (subst (λ (x : ℕ). HoldsMemory (with_int heap p (a / 4 % 1024) x) readable writable (with_word_at memory (a / 4) v)) (sym same) kept)
