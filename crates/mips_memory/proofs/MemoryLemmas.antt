-- Loads, stores and patches over pages.
use Rattle.std.proofs.Common.{◌≡◌, ℕ, zero, suc, ◌&&◌, ◌+◌, ◌*◌, ◌/◌, ◌%◌, ◌<◌, ◌≤◌, ◌^◌, Bool, true, false, nat_lt, if◌then◌else◌, List, [], ◌∷◌, length, Option, Some, None, refl, ap, sym, ◌∙◌, subst, arith, option_map, is_none, is_some, IsTrue, Result, Ok, Err}
use Rattle.std.specs.Prelude.{slice_index, slice_index_or, slice_set, ℤ}
use Rattle.std.specs.List.{list_all}
use Rattle.std.proofs.lemmas.Bool.{and_parts, le-ltb, ltb-true}
use Rattle.std.proofs.lemmas.List.{length-set}
use Rattle.run_definition.specs.Memory.{Memory, can_write, patched}
use Rattle.run_definition.specs.Question.{Question, asked, places_asked, room_at}
use Rattle.nv_events.specs.Serving.{Serves}
use Rattle.run_definition.specs.declared.call.Call.{Call}
use Rattle.run_definition.specs.declared.io_fault.IoFault.{IoFault}
use Rattle.nv_events.proofs.Rooms.{room_holds}
use Rattle.run_definition.specs.Answer.{Answer, fits_room, room_place}
use Rattle.run_definition.specs.Words.{lane_of_word}
use Rattle.run_definition.specs.declared.order.Order.{Order}
use Rattle.run_definition.specs.declared.order.Order.TheVariants.{Big}
use Rattle.mips_definition.specs.Memory.{with_byte}
use Rattle.mips_definition.specs.Loads.{store_aligned, store_allowed}
use Rattle.mips_definition.specs.declared.names.store_name.StoreName.{StoreName}
use Rattle.mips_definition.specs.declared.names.store_name.StoreName.TheVariants.{Sb}
use Rattle.mips_memory.specs.ByteList.{memory_in}
use Rattle.mips_memory.specs.declared.page.Page.TheVariants.{Unmapped}
use Rattle.mips_memory.specs.Pages.{Pages, is_writable, entry, cell, memory_of, put_byte_at, IsSound}
use Rattle.mips_memory.proofs.ViewLaws.{cell-writable, put_some}
use Rattle.mips_memory.proofs.ByteLemmas.{memory_in-set}
use Rattle.mips_memory.proofs.PageLemmas.{stored-there, IsSound-bytes}
use Rattle.mips_memory.proofs.WordLemmas.{IsAllowedAt, store_aligned-at, store_allowed-at}

at_split : (a : ℕ) → a ≡ 4 * (a / 4) + a % 4
at_split a = omega arith

allowed_there : (p : Pages) (a : ℕ) → IsAllowedAt (memory_of p) (a / 4) ((memory_of p).writable a)
unfolding memory_of
allowed_there p a = record {
  lanes = λ j h.
      let q : (4 * (a / 4) + j) / 4096 ≡ a / 4096 = omega arith in
      ap (λ x. is_writable (entry p x)) q;
}

-- ---- loads

loaded_byte : (p : Pages) (a x : ℕ) (o : Option ℕ) → cell p a ≡ o
    → (if is_none (option_map (slice_index p.bytes) o) then None else Some x) ≡ (if is_none ((memory_of p).byte a) then None else Some x)
unfolding memory_of
loaded_byte p a x o e = ap (λ o. if is_none (option_map (slice_index p.bytes) o) then None else Some x) (sym e)

pub load-none : (p : Pages) (a x : ℕ) → cell p a ≡ None → None ≡ (if is_none ((memory_of p).byte a) then None else Some x)
load-none p a x e = loaded_byte p a x None e

pub load-some : (p : Pages) (a i x : ℕ) → cell p a ≡ Some i → Some x ≡ (if is_none ((memory_of p).byte a) then None else Some x)
load-some p a i x e = loaded_byte p a x (Some i) e

-- nothing is loaded where no byte is, nor from an address that is not aligned
pub load-past : (b : Bool) (o : Option ℕ) (x : ℕ) → o ≡ None → None ≡ (if b && is_some o then Some x else None)
load-past true o x e = sym (ap (λ (q : Option ℕ). if is_some q then Some x else None) e)
load-past false o x e = refl

pub load-unaligned : (b : Bool) (o : Option ℕ) (x : ℕ) → b ≡ false → None ≡ (if b && is_some o then Some x else None)
load-unaligned b o x e = sym (ap (λ c. if c && is_some o then Some x else None) e)

-- ---- stores

pub store-answer : (name : StoreName) (order : Order) (p : Pages) (a : ℕ) → IsTrue (store_aligned name a) → store_allowed name order (memory_of p) a ≡ (memory_of p).writable a
store-answer name order p a aligned =
    store_allowed-at name order (memory_of p) (a / 4) (a % 4) a ((memory_of p).writable a) (allowed_there p a) (omega arith) (at_split a)
    (sym (store_aligned-at name (a / 4) (a % 4) a (at_split a)) ∙ aligned)

refused_by : (b allowed : Bool) → (IsTrue b → allowed ≡ false) → false ≡ b && allowed
refused_by true allowed h = sym (h refl)
refused_by false allowed h = refl

-- nothing may be stored behind all pages, nor at an address that is not aligned
writable-high : (p : Pages) (a : ℕ) → 2 ^ 31 ≤ a → (memory_of p).writable a ≡ false
unfolding memory_of entry
writable-high p a h =
    let t : nat_lt (a / 4096) 524288 ≡ false = le-ltb (a / 4096) 524288 (omega arith) in
    ap (λ t. is_writable (if t then slice_index_or p.table (a / 4096) Unmapped else Unmapped)) t

pub store-past : (name : StoreName) (order : Order) (p : Pages) (a : ℕ) → 2 ^ 31 ≤ a → false ≡ store_aligned name a && store_allowed name order (memory_of p) a
store-past name order p a high = refused_by (store_aligned name a) (store_allowed name order (memory_of p) a) (λ aligned. store-answer name order p a aligned ∙ writable-high p a high)

pub store-unaligned : (b allowed : Bool) → b ≡ false → false ≡ b && allowed
store-unaligned b allowed e = sym (ap (λ c. c && allowed) e)

-- ---- bytes put

pub memory_of-put : (p : Pages) (a b : ℕ) → IsSound p → b < 256 → (memory_of p).writable a ≡ true → memory_of (put_byte_at p a b) ≡ with_byte (memory_of p) a b
memory_of-put p a b sound byte w =
    let at = cell-writable p a w in
    let low : lane_of_word b 3 ≡ b = omega arith in
    ap memory_of (put_some p a b at.0 at.1)
    ∙ stored-there p sound a at.0 at.1 Sb Big b (slice_set p.bytes at.0 b) refl (memory_in-set p.bytes at.0 b (sound.within a at.0 at.1) ∙ ap (with_byte (memory_in p.bytes) at.0) (sym low))
    ∙ ap (with_byte (memory_of p) a) low

pub IsSound-put : (p : Pages) (a b : ℕ) → IsSound p → (memory_of p).writable a ≡ true → IsSound (put_byte_at p a b)
IsSound-put p a b sound w =
    let at = cell-writable p a w in
    subst IsSound (sym (put_some p a b at.0 at.1)) (IsSound-bytes p (slice_set p.bytes at.0 b) (length-set p.bytes at.0 b) sound)

-- bytes put one after the other
pub memory_of-patched : (patch : List ℕ) (p : Pages) (a : ℕ) → IsSound p → list_all (λ x. nat_lt x 256) patch ≡ true → can_write (memory_of p) a (length patch) ≡ true
    → memory_of (patched put_byte_at p a patch) ≡ patched with_byte (memory_of p) a patch
memory_of-patched [] p a sound bytes w = refl
memory_of-patched (b ∷ bs) p a sound bytes w =
    let byte = and_parts (nat_lt b 256) (list_all (λ x. nat_lt x 256) bs) bytes in
    let here = and_parts ((memory_of p).writable a) (can_write (memory_of p) (a + 1) (length bs)) w in
    let put = memory_of-put p a b sound (ltb-true b 256 byte.0) here.0 in
    memory_of-patched bs (put_byte_at p a b) (a + 1) (IsSound-put p a b sound here.0) byte.1 (ap (λ m. can_write m (a + 1) (length bs)) put ∙ same_can_write (memory_of p) a b (a + 1) (length bs) ∙ here.1)
    ∙ ap (λ m. patched with_byte m (a + 1) bs) put
  where
    same_can_write : (m : Memory) (a b x n : ℕ) → can_write (with_byte m a b) x n ≡ can_write m x n
    same_can_write m a b x zero = refl
    same_can_write m a b x (suc n) = ap (λ t. m.writable x && t) (same_can_write m a b (x + 1) n)

-- ---- calls answered

answered-memory : (c : Pages) → IsSound c → (room : Option (ℕ × ℕ)) (patch : List ℕ) → fits_room patch (room_at (memory_of c) room) ≡ true
    → memory_of (patched put_byte_at c (room_place (room_at (memory_of c) room)) patch) ≡ patched with_byte (memory_of c) (room_place (room_at (memory_of c) room)) patch
answered-memory c sound room [] h = refl
answered-memory c sound None (b ∷ bs) h = cc
answered-memory c sound (Some place) (b ∷ bs) h =
    let fit = room_holds (memory_of c) b bs place.0 place.1 (can_write (memory_of c) place.0 place.1) refl h in
    memory_of-patched (b ∷ bs) c (room_place (room_at (memory_of c) (Some place))) sound fit.1 fit.0

pub served-memory : {V : Type 0} (goes : V → Question → Answer → V → Type 0) (held fell : V → Question → V → Type 0) (call : Call) (c d : Pages) (v w : V) → IsSound c
    → (r : Result (Option ℤ) IoFault) → Serves goes held fell put_byte_at (asked call (memory_of c)) v w c d r
    → Serves goes held fell with_byte (asked call (memory_of c)) v w (memory_of c) (memory_of d) r
served-memory goes held fell call c d v w sound (Ok (Some value)) s =
    (s.0, s.1, s.2, ap memory_of s.3 ∙ answered-memory c sound (places_asked call).room s.0 s.1)
served-memory goes held fell call c d v w sound (Ok None) s = (s.0, ap memory_of s.1)
served-memory goes held fell call c d v w sound (Err e) s =
    (s.0, (s.1.0, s.1.1, ap memory_of s.1.2 ∙ answered-memory c sound (places_asked call).room s.1.0 s.1.1))
