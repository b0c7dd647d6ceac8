-- What holds of the memory of any pages, and of a byte that is put: the laws of a view.
use Rattle.std.proofs.Common.{◌≡◌, ℕ, ◌+◌, ◌/◌, ◌%◌, ◌≤◌, ◌^◌, true, false, if◌then◌else◌, Option, Some, None, refl, ap, sym, ◌∙◌, arith, option_map, is_some, nat_lt, IsTrue}
use Rattle.std.specs.Prelude.{slice_index, slice_index_or, slice_set}
use Rattle.std.proofs.lemmas.Bool.{le-ltb}
use Rattle.nv_events.specs.ByPages.{IsByPages}
use Rattle.mips_memory.specs.declared.page.Page.{Page}
use Rattle.mips_memory.specs.declared.page.Page.TheVariants.{Unmapped, ReadOnly, Writable}
use Rattle.mips_memory.specs.Pages.{Pages, shift_of, is_writable, entry, cell, memory_of, put_byte_at}

-- what a look for a byte that may be written finds
writable_place : (e : Page) (n : ℕ) → is_writable e ≡ true → (i : ℕ)
    × (option_map (λ k. (n + k) % 2 ^ 32) (shift_of e) ≡ Some i)
writable_place Unmapped n w = cc
writable_place (ReadOnly k) n w = cc
writable_place (Writable k) n w = ((n + k) % 2 ^ 32, refl)

pub cell-writable : (p : Pages) (a : ℕ) → (memory_of p).writable a ≡ true → (i : ℕ)
    × (cell p a ≡ Some i)
unfolding memory_of cell
cell-writable p a w = writable_place (entry p (a / 4096)) a w

pub written_is_readable : (p : Pages) (a : ℕ) → IsTrue ((memory_of p).writable a)
    → IsTrue (is_some ((memory_of p).byte a))
unfolding memory_of
written_is_readable p a w =
    let at = cell-writable p a w in
    rw at.1 refl

pub byte-high : (p : Pages) (a : ℕ) → 2 ^ 31 ≤ a → (memory_of p).byte a ≡ None
unfolding memory_of cell entry
byte-high p a h =
    let t : nat_lt (a / 4096) 524288 ≡ false = le-ltb (a / 4096) 524288 (omega arith) in
    ap (λ t. option_map (slice_index p.bytes)
    (option_map (λ k. (a + k) % 2 ^ 32)
    (shift_of (if t then slice_index_or p.table (a / 4096) Unmapped else Unmapped)))) t

pub byte-past : (p : Pages) (a : ℕ) → 2 ^ 32 ≤ a → (memory_of p).byte a ≡ None
byte-past p a h = byte-high p a (omega (arith, h))

same_some : (f g : ℕ → ℕ) (o : Option ℕ) → is_some (option_map f o) ≡ is_some (option_map g o)
same_some f g None = refl
same_some f g (Some i) = refl

put_none : (p : Pages) (a b : ℕ) → cell p a ≡ None → put_byte_at p a b ≡ p
unfolding put_byte_at
put_none p a b e = rw (e, put_byte_at) refl

pub put_some : (p : Pages) (a b i : ℕ) → cell p a ≡ Some i
    → put_byte_at p a b ≡ record p { bytes = slice_set p.bytes i b }
unfolding put_byte_at
put_some p a b i e = rw (e, put_byte_at) refl

put_keeps_cells : (p : Pages) (a b n : ℕ) (o : Option ℕ) → cell p a ≡ o
    → cell (put_byte_at p a b) n ≡ cell p n
unfolding cell entry
put_keeps_cells p a b n None e = ap (λ q. cell q n) (put_none p a b e)
put_keeps_cells p a b n (Some i) e = ap (λ q. cell q n) (put_some p a b i e)

pub readable_stays : (p : Pages) (a b x : ℕ) → is_some ((memory_of (put_byte_at p a b)).byte x)
    ≡ is_some ((memory_of p).byte x)
unfolding memory_of
readable_stays p a b x =
    rw (put_keeps_cells p a b x (cell p a) refl)
    (same_some (slice_index (put_byte_at p a b).bytes) (slice_index p.bytes) (cell p x))

put_keeps_pages : (p : Pages) (a b n : ℕ) (o : Option ℕ) → cell p a ≡ o
    → entry (put_byte_at p a b) n ≡ entry p n
unfolding entry
put_keeps_pages p a b n None e = ap (λ q. entry q n) (put_none p a b e)
put_keeps_pages p a b n (Some i) e = ap (λ q. entry q n) (put_some p a b i e)

pub writable_stays : (p : Pages) (a b x : ℕ) → (memory_of (put_byte_at p a b)).writable x
    ≡ (memory_of p).writable x
unfolding memory_of
writable_stays p a b x = ap is_writable (put_keeps_pages p a b (x / 4096) (cell p a) refl)

some_map : (f : ℕ → ℕ) (o : Option ℕ) → is_some (option_map f o) ≡ is_some o
some_map f None = refl
some_map f (Some i) = refl

byte_there : (p : Pages) (a : ℕ) → is_some ((memory_of p).byte a)
    ≡ is_some (shift_of (entry p (a / 4096)))
unfolding memory_of cell
byte_there p a =
    some_map (slice_index p.bytes) (cell p a)
    ∙ some_map (λ k. (a + k) % 2 ^ 32) (shift_of (entry p (a / 4096)))

-- a page is there or not as a whole
pub reads_by_pages : (p : Pages) → IsByPages (λ a. is_some ((memory_of p).byte a))
reads_by_pages p = λ a b le same there. byte_there p a
    ∙ ap (λ n. is_some (shift_of (entry p n))) same
    ∙ sym (byte_there p b)
    ∙ there

pub writes_by_pages : (p : Pages) → IsByPages (memory_of p).writable
unfolding memory_of
writes_by_pages p = λ a b le same there. ap (λ n. is_writable (entry p n)) same ∙ there
