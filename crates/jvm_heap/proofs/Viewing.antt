-- The laws of a view, of the memory that a call sees.
use Rattle.std.specs.Prelude.{◌≡◌, ℕ, ◌/◌, ◌%◌, ◌^◌, ◌≤◌, ◌<◌, ◌==◌, nat_lt, Bool, true, false, if◌then◌else◌, Option, Some, None, is_some, option_map, option_and_then, IsTrue, refl}
use Rattle.std.specs.Option.{option_or}
use Rattle.std.proofs.Common.{ap, sym, ◌∙◌, arith}
use Rattle.std.proofs.lemmas.Bool.{le-ltb, lt-ltb, ltb-true}
use Rattle.nv_events.specs.ByPages.{IsByPages}
use Rattle.run_definition.specs.Words.{lane_of_word, word_with_lane}
use Rattle.jvm_definition.specs.Values.{Array, ints, pages, Heap, set_int, with_int}
use Rattle.jvm_definition.specs.HostMemory.{HostMemory, Cell, page_in, word_in_array, cell_of, byte_of, memory_of, with_cell, with_host_byte}

or_some : (o p : Option ℕ) → is_some p ≡ true → is_some (option_or o p) ≡ true
or_some None p h = h
or_some (Some x) p h = refl

-- what may be written can be read
pub written_is_readable : (m : HostMemory) (a : ℕ) → IsTrue ((memory_of m).writable a)
    → IsTrue (is_some ((memory_of m).byte a))
written_is_readable m a h = or_some (byte_of m.heap m.readable a) (byte_of m.heap m.writable a) h

ends_by : (heap : Heap) (table : Option ℕ) (a : ℕ) → 2 ^ 32 ≤ a → byte_of heap table a ≡ None
ends_by heap table a h =
    ap (λ t. if t then option_map (λ c. lane_of_word c.word (a % 4)) (cell_of heap table a)
    else None) (le-ltb a (2 ^ 32) h)

-- addresses end at 2^32
pub memory_ends : (m : HostMemory) (a : ℕ) → 2 ^ 32 ≤ a → (memory_of m).byte a ≡ None
memory_ends m a h =
    ap (λ o. option_or o (byte_of m.heap m.writable a)) (ends_by m.heap m.readable a h)
    ∙ ends_by m.heap m.writable a h

-- ---- another word changes no place, length or page

page_kept : (o : Option Array) (i w n : ℕ) (t : Bool)
    → page_in (if t then set_int o i w else o) n ≡ page_in o n
page_kept None i w n true = refl
page_kept (Some (ints size f)) i w n true = refl
page_kept (Some (pages size f)) i w n true = refl
page_kept o i w n false = refl

some_word : (size k : ℕ) (x y : ℕ) → is_some (if nat_lt k size then Some x else None)
    ≡ is_some (if nat_lt k size then Some y else None)
some_word size k x y = by_test (nat_lt k size)
  where
    by_test : (t : Bool) → is_some (if t then Some x else None)
        ≡ is_some (if t then Some y else None)
    by_test true = refl
    by_test false = refl

word_kept : (o : Option Array) (i w k : ℕ) (t : Bool)
    → is_some (word_in_array (if t then set_int o i w else o) k) ≡ is_some (word_in_array o k)
word_kept None i w k true = refl
word_kept (Some (ints size f)) i w k true = some_word size k (if k == i then w else f k) (f k)
word_kept (Some (pages size f)) i w k true = refl
word_kept o i w k false = refl

some_map : {A B : Type 0} (f : A → B) (o : Option A) → is_some (option_map f o) ≡ is_some o
some_map f None = refl
some_map f (Some x) = refl

-- a cell is there where its page and its word are
cell_there : (heap : Heap) (a : ℕ) (page : Option ℕ) → Bool
cell_there heap a None = false
cell_there heap a (Some p) = is_some (word_in_array (heap.array_at p) (a / 4 % 1024))

abbrev page_at : Heap → Option ℕ → ℕ → Option ℕ
page_at heap table a = option_and_then (λ t. page_in (heap.array_at t) (a / 4096)) table

abbrev cell_in : ℕ → ℕ → ℕ → Cell
cell_in p i w = record { place = p; index = i; word = w }

cell_by : (heap : Heap) (a : ℕ) (page : Option ℕ)
    → is_some (option_and_then (λ p. option_map (cell_in p (a / 4 % 1024))
    (word_in_array (heap.array_at p) (a / 4 % 1024))) page) ≡ cell_there heap a page
unfolding cell_there
cell_by heap a None = refl
cell_by heap a (Some p) =
    some_map (cell_in p (a / 4 % 1024)) (word_in_array (heap.array_at p) (a / 4 % 1024))

there_kept : (heap : Heap) (q i w a : ℕ) (page : Option ℕ)
    → cell_there (with_int heap q i w) a page ≡ cell_there heap a page
unfolding cell_there
there_kept heap q i w a None = refl
there_kept heap q i w a (Some p) = word_kept (heap.array_at p) i w (a / 4 % 1024) (p == q)

page_at_kept : (heap : Heap) (q i w a : ℕ) (table : Option ℕ)
    → page_at (with_int heap q i w) table a ≡ page_at heap table a
page_at_kept heap q i w a None = refl
page_at_kept heap q i w a (Some t) = page_kept (heap.array_at t) i w (a / 4096) (t == q)

byte_there : (heap heap_after : Heap) (table : Option ℕ) (a : ℕ)
    → is_some (cell_of heap_after table a) ≡ is_some (cell_of heap table a)
    → is_some (byte_of heap_after table a) ≡ is_some (byte_of heap table a)
byte_there heap heap_after table a e = by_test (nat_lt a (2 ^ 32))
  where
    by_test : (t : Bool)
        → is_some (if t then option_map (λ c. lane_of_word c.word (a % 4))
        (cell_of heap_after table a) else None)
        ≡ is_some (if t then option_map (λ c. lane_of_word c.word (a % 4)) (cell_of heap table a)
        else None)
    by_test true =
        some_map (λ c. lane_of_word c.word (a % 4)) (cell_of heap_after table a)
        ∙ e
        ∙ sym (some_map (λ c. lane_of_word c.word (a % 4)) (cell_of heap table a))
    by_test false = refl

byte_kept : (heap : Heap) (q i w a : ℕ) (table : Option ℕ)
    → is_some (byte_of (with_int heap q i w) table a) ≡ is_some (byte_of heap table a)
byte_kept heap q i w a table =
    byte_there heap (with_int heap q i w) table a
    (cell_by (with_int heap q i w) a (page_at (with_int heap q i w) table a) ∙ ap
    (cell_there (with_int heap q i w) a) (page_at_kept heap q i w a table)
    ∙ there_kept heap q i w a (page_at heap table a) ∙ sym
    (cell_by heap a (page_at heap table a)))

kept_by : (heap : Heap) (cell : Option Cell) (lane b x : ℕ) (table : Option ℕ)
    → is_some (byte_of (with_cell heap cell lane b) table x) ≡ is_some (byte_of heap table x)
kept_by heap None lane b x table = refl
kept_by heap (Some c) lane b x table =
    byte_kept heap c.place c.index (word_with_lane c.word lane b) x table

or_kept : (o p s t : Option ℕ) → is_some s ≡ is_some o → is_some t ≡ is_some p
    → is_some (option_or s t) ≡ is_some (option_or o p)
or_kept None p None t e f = f
or_kept None p (Some y) t e f = let bad : true ≡ false = e in absurd cc
or_kept (Some x) p None t e f = let bad : false ≡ true = e in absurd cc
or_kept (Some x) p (Some y) t e f = refl

pub readable_stays : (m : HostMemory) (a b x : ℕ) → b < 256 → IsTrue ((memory_of m).writable a)
    → is_some ((memory_of (with_host_byte m a b)).byte x) ≡ is_some ((memory_of m).byte x)
readable_stays m a b x small h =
    let cell = cell_of m.heap m.writable a in
    or_kept (byte_of m.heap m.readable x) (byte_of m.heap m.writable x)
    (byte_of (with_cell m.heap cell (a % 4) b) m.readable x)
    (byte_of (with_cell m.heap cell (a % 4) b) m.writable x)
    (kept_by m.heap cell (a % 4) b x m.readable)
    (kept_by m.heap cell (a % 4) b x m.writable)

pub writable_stays : (m : HostMemory) (a b x : ℕ) → b < 256 → IsTrue ((memory_of m).writable a)
    → (memory_of (with_host_byte m a b)).writable x ≡ (memory_of m).writable x
writable_stays m a b x small h = kept_by m.heap (cell_of m.heap m.writable a) (a % 4) b x m.writable

-- ---- an array has the front of a page, or nothing of it

some_if : (t : Bool) (x : ℕ) → is_some (if t then Some x else None) ≡ t
some_if true x = refl
some_if false x = refl

word_front : (o : Option Array) (i j : ℕ) → i ≤ j → is_some (word_in_array o j) ≡ true
    → is_some (word_in_array o i) ≡ true
word_front None i j le h = h
word_front (Some (ints size f)) i j le h =
    let last : j < size = ltb-true j size (sym (some_if (nat_lt j size) (f j)) ∙ h) in
    some_if (nat_lt i size) (f i) ∙ lt-ltb i size (omega arith)
word_front (Some (pages size f)) i j le h = h

there_front : (heap : Heap) (a b : ℕ) (page : Option ℕ) → a / 4 % 1024 ≤ b / 4 % 1024
    → cell_there heap b page ≡ true → cell_there heap a page ≡ true
unfolding cell_there
there_front heap a b None le h = h
there_front heap a b (Some p) le h =
    word_front (heap.array_at p) (a / 4 % 1024) (b / 4 % 1024) le h

byte_some : (heap : Heap) (table : Option ℕ) (a : ℕ) → is_some (byte_of heap table a)
    ≡ (if nat_lt a (2 ^ 32) then is_some (cell_of heap table a) else false)
byte_some heap table a = by_test (nat_lt a (2 ^ 32))
  where
    by_test : (t : Bool)
        → is_some (if t then option_map (λ c. lane_of_word c.word (a % 4)) (cell_of heap table a)
        else None)
        ≡ (if t then is_some (cell_of heap table a) else false)
    by_test true = some_map (λ c. lane_of_word c.word (a % 4)) (cell_of heap table a)
    by_test false = refl

both_true : (t u : Bool) → (if t then u else false) ≡ true → (t ≡ true) × (u ≡ true)
both_true true u h = (refl, h)
both_true false u h = let bad : false ≡ true = h in absurd cc

byte_front : (heap : Heap) (table : Option ℕ) → IsByPages (λ a. is_some (byte_of heap table a))
byte_front heap table = λ a b le same there.
    let last = both_true (nat_lt b (2 ^ 32)) (is_some (cell_of heap table b))
    (sym (byte_some heap table b) ∙ there) in
    let end : b < 2 ^ 32 = ltb-true b (2 ^ 32) last.0 in
    let low : nat_lt a (2 ^ 32) ≡ true = lt-ltb a (2 ^ 32) (omega arith) in
    let page : page_at heap table a ≡ page_at heap table b =
    ap (λ n. option_and_then (λ t. page_in (heap.array_at t) n) table) same in
    let cell : cell_there heap b (page_at heap table b) ≡ true =
    sym (cell_by heap b (page_at heap table b)) ∙ last.1 in
    let front : cell_there heap a (page_at heap table b) ≡ true =
    there_front heap a b (page_at heap table b) (omega arith) cell in
    byte_some heap table a
    ∙ ap (λ t. if t then is_some (cell_of heap table a) else false) low
    ∙ cell_by heap a (page_at heap table a)
    ∙ ap (cell_there heap a) page
    ∙ front

or_first : (o p : Option ℕ) → is_some o ≡ true → is_some (option_or o p) ≡ true
or_first None p h = let bad : false ≡ true = h in absurd cc
or_first (Some x) p h = refl

or_front : (o p s t : Option ℕ) → (is_some o ≡ true → is_some s ≡ true)
    → (is_some p ≡ true → is_some t ≡ true) → is_some (option_or o p) ≡ true
    → is_some (option_or s t) ≡ true
or_front None p s t f g h = or_some s t (g h)
or_front (Some x) p s t f g h = or_first s t (f refl)

pub reads_by_pages : (m : HostMemory) → IsByPages (λ a. is_some ((memory_of m).byte a))
reads_by_pages m = λ a b le same there.
    or_front (byte_of m.heap m.readable b) (byte_of m.heap m.writable b)
    (byte_of m.heap m.readable a) (byte_of m.heap m.writable a)
    (byte_front m.heap m.readable a b le same) (byte_front m.heap m.writable a b le same) there

pub writes_by_pages : (m : HostMemory) → IsByPages (memory_of m).writable
writes_by_pages m = byte_front m.heap m.writable
