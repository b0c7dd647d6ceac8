-- How the pool that is kept in slots and a stack of numbers changes with them, and that each change keeps it sound.
use Rattle.std.proofs.Common.{◌≡◌, ℕ, ◌+◌, ◌-◌, ◌<◌, ◌≤◌, cond, eqb, List, [], ◌∷◌, ◌++◌, length, get_or, set, replicate, reverse, Option, Some, None, refl, ap, sym, ◌∙◌, arith, suc, inl, inr, subst, append_assoc, length-append}
use Rattle.std.specs.List.{range_with_len}
use Rattle.std.specs.Option.{IsSome}
use Rattle.std.proofs.lemmas.Bool.{false≢true, cases_lt}
use Rattle.std.proofs.lemmas.List.{set-append_left, length-set, get_or-append_right, get_or_append_left, length-replicate, reverse-append, length_push, length-reverse, set_at, get_or_read, append-nil, nil_from_length}
use Rattle.std.proofs.lemmas.List.FromFn.{length-range_with_len}
use Rattle.std.proofs.lemmas.List.Sums.{sum_by-append}
use Rattle.block_pool.specs.Blocks.{IsSound, IsUsed, bytes_of, next_of, with_block, free_count}
use Rattle.block_pool.specs.Kept.{pool_of, AreKeptBlocks}
use Rattle.block_pool.specs.declared.block.Block.{Block}
use Rattle.block_pool.proofs.PoolLemmas.{pool, free_at-le-one, times-cons_same, free_block, first_is_free, times-range, get_or-replicate_none, free-lt-length, IsSound-taken, IsSound-given, IsSound-put, IsSound-untouched}

-- the blocks of a pool that is kept in slots
abbrev pub blocks_of : List (Option Block) → ℕ → List (Option Block)
blocks_of slots size = slots ++ replicate (size - length slots) None

-- the numbers of the blocks that were never taken
abbrev pub unused : List (Option Block) → ℕ → List ℕ
unused slots size = range_with_len (length slots) (size - length slots)

-- a block in use has a slot
pub used_slot : (slots : List (Option Block)) (size b : ℕ) → IsSome (get_or (blocks_of slots size) b None) → b < length slots
used_slot slots size b used = elim (cases_lt b (length slots)) [
  | inl less ↦ less
  | inr past ↦
      let e : get_or (blocks_of slots size) b None ≡ None =
      get_or-append_right slots (replicate (size - length slots) None) (length slots) b None refl past ∙ get_or-replicate_none (size - length slots) (b - length slots) in
      absurd (false≢true (subst IsSome e used))
]

length-blocks_of : (slots : List (Option Block)) (size : ℕ) → length slots ≤ size → length (blocks_of slots size) ≡ size
length-blocks_of slots size h = omega (arith, length-append slots (replicate (size - length slots) None), length-replicate {A = Option Block} (size - length slots) None)

pub blocks_of-set : (slots : List (Option Block)) (size b : ℕ) (s : Option Block) → b < length slots → blocks_of (set slots b s) size ≡ set (blocks_of slots size) b s
blocks_of-set slots size b s h = rw (length-set, set-append_left) refl

unused-set : (slots : List (Option Block)) (size b : ℕ) (s : Option Block) → unused (set slots b s) size ≡ unused slots size
unused-set slots size b s = rw length-set refl

suc_of : (a b : ℕ) → a < b → b - a ≡ suc (b - (a + 1))
suc_of a b h = omega arith

pub blocks_of-push : (slots : List (Option Block)) (size : ℕ) (s : Option Block) → length slots < size → blocks_of (slots ++ s ∷ []) size ≡ set (blocks_of slots size) (length slots) s
blocks_of-push slots size s h =
    let never = replicate {A = Option Block} (size - (length slots + 1)) None in
    let pushed : blocks_of (slots ++ s ∷ []) size ≡ slots ++ s ∷ never =
    rw (length_push slots s) (append_assoc slots (s ∷ []) never) in
    let before : blocks_of slots size ≡ slots ++ None ∷ never =
    ap (λ n. slots ++ replicate {A = Option Block} n None) (suc_of (length slots) size h) in
    pushed ∙ (sym (set_at slots None never s (length slots) refl) ∙ ap (λ l. set l (length slots) s) (sym before))

pub unused-push : (slots : List (Option Block)) (size : ℕ) (s : Option Block) → length slots < size → unused slots size ≡ length slots ∷ unused (slots ++ s ∷ []) size
unused-push slots size s h =
    ap (λ n. range_with_len (length slots) n) (suc_of (length slots) size h)
    ∙ ap (λ n. length slots ∷ range_with_len n (size - n)) (sym (length_push slots s))

-- the number that was given back last comes first
pub order-popped : (rest : List ℕ) (b : ℕ) (never : List ℕ) → reverse (rest ++ b ∷ []) ++ never ≡ b ∷ (reverse rest ++ never)
order-popped rest b never = rw (reverse-append rest (b ∷ [])) refl

pub IsKept-new : (n : ℕ) → n ≤ 65536 → AreKeptBlocks [] [] n n n
IsKept-new n few = record {
  sound = let all : n - 0 ≡ n = omega arith in rw all (IsSound-untouched n);
  within = omega arith;
  slots_fit = refl;
  given_fit = refl;
  few = few;
}

-- a block in use is changed
pub IsKept-put : (slots : List (Option Block)) (given : List ℕ) (size r g b : ℕ) (k : Block) → length k.bytes ≡ 4096 → IsUsed (pool_of slots given size) b → AreKeptBlocks slots given size r g → AreKeptBlocks (set slots b (Some k)) given size r g
IsKept-put slots given size r g b k sized used h =
    let slot = used_slot slots size b used in
    record {
      sound = rw (blocks_of-set slots size b (Some k) slot, unused-set slots size b (Some k)) (IsSound-put (blocks_of slots size) b (reverse given ++ unused slots size) k sized used h.sound);
      within = rw length-set h.within;
      slots_fit = h.slots_fit;
      given_fit = h.given_fit;
      few = h.few;
    }

-- the number that was given back last is the first of the order, and has a slot
pub IsSound-popped : (slots : List (Option Block)) (given rest : List ℕ) (size r g b : ℕ) → given ≡ rest ++ b ∷ [] → AreKeptBlocks slots given size r g → IsSound (pool (blocks_of slots size) (b ∷ (reverse rest ++ unused slots size)))
IsSound-popped slots given rest size r g b is h =
    subst (λ order. IsSound (pool (blocks_of slots size) order)) (ap (λ l. reverse l ++ unused slots size) is ∙ order-popped rest b (unused slots size)) h.sound

pub popped_slot : (slots : List (Option Block)) (given rest : List ℕ) (size r g b : ℕ) → given ≡ rest ++ b ∷ [] → AreKeptBlocks slots given size r g → b < length slots
popped_slot slots given rest size r g b is h =
    let never = unused slots size in
    let order = reverse rest ++ never in
    let sound : IsSound (pool (blocks_of slots size) (b ∷ order)) = IsSound-popped slots given rest size r g b is h in
    let free = free_block (blocks_of slots size) b (first_is_free (blocks_of slots size) b order sound) in
    elim (cases_lt b (length slots)) [
      | inl less ↦ less
      | inr past ↦
          absurd (omega (
            arith,
            sound.waiting b,
            free_at-le-one (blocks_of slots size) b,
            times-cons_same b b order refl,
            sum_by-append (λ q. cond (eqb q b) 1 0) (reverse rest) never,
            times-range (length slots) (size - length slots) b past (omega (arith, free.0, length-blocks_of slots size h.within)),
          ))
    ]

pub IsKept-popped : (slots : List (Option Block)) (given rest : List ℕ) (size r g b : ℕ) (k : Block) → length k.bytes ≡ 4096 → given ≡ rest ++ b ∷ [] → AreKeptBlocks slots given size r g → AreKeptBlocks (set slots b (Some k)) rest size r g
IsKept-popped slots given rest size r g b k sized is h =
    let slot = popped_slot slots given rest size r g b is h in
    record {
      sound = rw (blocks_of-set slots size b (Some k) slot, unused-set slots size b (Some k)) (IsSound-taken (blocks_of slots size) b (reverse rest ++ unused slots size) k sized (IsSound-popped slots given rest size r g b is h));
      within = rw length-set h.within;
      slots_fit = h.slots_fit;
      given_fit = h.given_fit;
      few = h.few;
    }

-- where none was given back, the lowest that was never taken comes first
pub order-pushed : (slots : List (Option Block)) (given rest : List ℕ) (size : ℕ) (s : Option Block) → given ≡ rest ++ [] → length given ≡ 0 → length slots < size
    → reverse given ++ unused slots size ≡ length slots ∷ (reverse rest ++ unused (slots ++ s ∷ []) size)
order-pushed slots given rest size s is none room =
    let no_given : given ≡ [] = nil_from_length given none in
    let no_rest : rest ≡ [] = sym (append-nil rest) ∙ (sym is ∙ no_given) in
    rw (no_given, no_rest) (unused-push slots size s room)

-- and gets a slot
pub IsKept-pushed : (slots : List (Option Block)) (given rest : List ℕ) (size r g : ℕ) (k : Block) → length k.bytes ≡ 4096 → given ≡ rest ++ [] → length given ≡ 0 → length slots < size → AreKeptBlocks slots given size r g → AreKeptBlocks (slots ++ Some k ∷ []) rest size r g
IsKept-pushed slots given rest size r g k sized is none room h =
    let order = reverse rest ++ unused (slots ++ Some k ∷ []) size in
    let sound : IsSound (pool (blocks_of slots size) (length slots ∷ order)) =
    subst (λ o. IsSound (pool (blocks_of slots size) o)) (order-pushed slots given rest size (Some k) is none room) h.sound in
    record {
      sound = subst (λ blocks. IsSound (pool blocks order)) (sym (blocks_of-push slots size (Some k) room)) (IsSound-taken (blocks_of slots size) (length slots) order k sized sound);
      within = omega (arith, length_push slots (Some k));
      slots_fit = h.slots_fit;
      given_fit = h.given_fit;
      few = h.few;
    }

-- a block is given back, and there is room for its number
pub given_room : (slots : List (Option Block)) (given : List ℕ) (size r g b : ℕ) → IsUsed (pool_of slots given size) b → AreKeptBlocks slots given size r g → length given < size
given_room slots given size r g b used h =
    omega (
      arith,
      h.sound.counted,
      length-append (reverse given) (unused slots size),
      length-reverse given,
      free-lt-length (blocks_of slots size) b used,
      length-blocks_of slots size h.within,
    )

pub IsKept-given : (slots : List (Option Block)) (given : List ℕ) (size r g b : ℕ) → IsUsed (pool_of slots given size) b → AreKeptBlocks slots given size r g → AreKeptBlocks (set slots b None) (given ++ b ∷ []) size r g
IsKept-given slots given size r g b used h =
    let slot = used_slot slots size b used in
    record {
      sound = rw (blocks_of-set slots size b None slot, unused-set slots size b None, order-popped given b (unused slots size)) (IsSound-given (blocks_of slots size) b (reverse given ++ unused slots size) used h.sound);
      within = rw length-set h.within;
      slots_fit = h.slots_fit;
      given_fit = h.given_fit;
      few = h.few;
    }

-- a slot as a caller sees it
bytes_of-slot : (slots : List (Option Block)) (given : List ℕ) (size b : ℕ) (k : Block) → b < length slots → get_or slots b None ≡ Some k → bytes_of (pool_of slots given size) b ≡ k.bytes
bytes_of-slot slots given size b k slot is = rw (get_or_append_left slots (replicate (size - length slots) None) None b slot, is) refl

next_of-slot : (slots : List (Option Block)) (given : List ℕ) (size b : ℕ) (k : Block) → b < length slots → get_or slots b None ≡ Some k → next_of (pool_of slots given size) b ≡ k.next
next_of-slot slots given size b k slot is = rw (get_or_append_left slots (replicate (size - length slots) None) None b slot, is) refl

pool_of-put : (slots : List (Option Block)) (given : List ℕ) (size b : ℕ) (bytes : List ℕ) (next : Option ℕ) → b < length slots → pool_of (set slots b (Some (record { bytes = bytes; next = next }))) given size ≡ with_block (pool_of slots given size) b bytes next
pool_of-put slots given size b bytes next slot =
    rw (blocks_of-set slots size b (Some (record { bytes = bytes; next = next })) slot, unused-set slots size b (Some (record { bytes = bytes; next = next }))) refl

pub slot_size : (slots : List (Option Block)) (given : List ℕ) (size r g b : ℕ) (k : Block) → IsUsed (pool_of slots given size) b → Some k ≡ get_or slots b (Some k) → AreKeptBlocks slots given size r g → length k.bytes ≡ 4096
slot_size slots given size r g b k used is h =
    let slot = used_slot slots size b used in
    let here : get_or slots b None ≡ Some k = sym (get_or_read slots b (Some k) slot is None) in
    sym (ap length (bytes_of-slot slots given size b k slot here)) ∙ h.sound.sized b

-- the bytes of a slot are changed, or its next
pub pool_of-put_bytes : (f : List ℕ → List ℕ) (slots : List (Option Block)) (given : List ℕ) (size b : ℕ) (k : Block) → IsUsed (pool_of slots given size) b → Some k ≡ get_or slots b (Some k)
    → pool_of (set slots b (Some (record { bytes = f k.bytes; next = k.next }))) given size ≡ with_block (pool_of slots given size) b (f (bytes_of (pool_of slots given size) b)) (next_of (pool_of slots given size) b)
pool_of-put_bytes f slots given size b k used is =
    let slot = used_slot slots size b used in
    let here : get_or slots b None ≡ Some k = sym (get_or_read slots b (Some k) slot is None) in
    rw (bytes_of-slot slots given size b k slot here, next_of-slot slots given size b k slot here) (pool_of-put slots given size b (f k.bytes) k.next slot)

pub pool_of-put_next : (slots : List (Option Block)) (given : List ℕ) (size b : ℕ) (k : Block) (to : Option ℕ) → IsUsed (pool_of slots given size) b → Some k ≡ get_or slots b (Some k)
    → pool_of (set slots b (Some (record { bytes = k.bytes; next = to }))) given size ≡ with_block (pool_of slots given size) b (bytes_of (pool_of slots given size) b) to
pool_of-put_next slots given size b k to used is =
    let slot = used_slot slots size b used in
    let here : get_or slots b None ≡ Some k = sym (get_or_read slots b (Some k) slot is None) in
    rw (bytes_of-slot slots given size b k slot here) (pool_of-put slots given size b k.bytes to slot)

-- how many blocks are free
pub free_of : (slots : List (Option Block)) (given : List ℕ) (size r g : ℕ) → AreKeptBlocks slots given size r g → (size - length slots) + length given ≡ free_count (pool_of slots given size)
free_of slots given size r g h =
    omega (
      arith,
      h.sound.counted,
      length-append (reverse given) (unused slots size),
      length-reverse given,
      length-range_with_len (length slots) (size - length slots),
    )

-- how the count of the free blocks goes on
pub count-popped : (slots : List (Option Block)) (given rest : List ℕ) (size r g b : ℕ) (k : Block) → length k.bytes ≡ 4096 → given ≡ rest ++ b ∷ [] → AreKeptBlocks slots given size r g → free_count (pool_of (set slots b (Some k)) rest size) + 1 ≡ free_count (pool_of slots given size)
count-popped slots given rest size r g b k sized is h =
    omega (
      arith,
      free_of slots given size r g h,
      free_of (set slots b (Some k)) rest size r g (IsKept-popped slots given rest size r g b k sized is h),
      length-set slots b (Some k),
      ap length is,
      length_push rest b,
    )

pub count-pushed : (slots : List (Option Block)) (given rest : List ℕ) (size r g : ℕ) (k : Block) → length k.bytes ≡ 4096 → given ≡ rest ++ [] → length given ≡ 0 → length slots < size → AreKeptBlocks slots given size r g → free_count (pool_of (slots ++ Some k ∷ []) rest size) + 1 ≡ free_count (pool_of slots given size)
count-pushed slots given rest size r g k sized is none room h =
    omega (
      arith,
      free_of slots given size r g h,
      free_of (slots ++ Some k ∷ []) rest size r g (IsKept-pushed slots given rest size r g k sized is none room h),
      length_push slots (Some k),
      ap length (is ∙ append-nil rest),
    )

pub count-given : (slots : List (Option Block)) (given : List ℕ) (size r g b : ℕ) → IsUsed (pool_of slots given size) b → AreKeptBlocks slots given size r g → free_count (pool_of (set slots b None) (given ++ b ∷ []) size) ≡ free_count (pool_of slots given size) + 1
count-given slots given size r g b used h =
    omega (
      arith,
      free_of slots given size r g h,
      free_of (set slots b None) (given ++ b ∷ []) size r g (IsKept-given slots given size r g b used h),
      length-set slots b (let none : Option Block = None in none),
      length_push given b,
    )

pub count-put : (slots : List (Option Block)) (given : List ℕ) (size r g b : ℕ) (k : Block) → length k.bytes ≡ 4096 → IsUsed (pool_of slots given size) b → AreKeptBlocks slots given size r g → free_count (pool_of (set slots b (Some k)) given size) ≡ free_count (pool_of slots given size)
count-put slots given size r g b k sized used h =
    omega (
      arith,
      free_of slots given size r g h,
      free_of (set slots b (Some k)) given size r g (IsKept-put slots given size r g b k sized used h),
      length-set slots b (Some k),
    )
