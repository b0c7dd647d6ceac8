-- Tables of pages for which pages are made.
use Rattle.std.specs.Prelude.{◌≡◌, ◌≢◌, ℕ, suc, ◌+◌, ◌*◌, ◌<◌, ◌≤◌, ◌==◌, ◌&&◌, nat_lt, Bool, true, false, if◌then◌else◌, List, [], ◌∷◌, ◌++◌, length, flat_map, Option, Some, None, is_some}
use Rattle.std.specs.List.{list_any}
use Rattle.elf_image_parts.specs.declared.page_run.PageRun.{PageRun}
use Rattle.elf_image_parts.specs.Runs.{pages_of, run_pages}
use Rattle.jvm_definition.specs.declared.value.Value.TheVariants.{Array as array, Text as text}
use Rattle.jvm_definition.specs.Program.{Program}
use Rattle.jvm_definition.specs.Values.{ints, pages, Heap, with_new, with_page}
use Rattle.jvm_definition.specs.Effect.{Workspace}
use Rattle.jvm_definition.specs.Step.{Frame}
use Rattle.emit_steps.specs.Placing.{LiesAt}
use Rattle.emit_layout.specs.FieldNumbers.{page_count, readable_field, writable_field}
use Rattle.emit_loading.specs.Pages.{pages_code}
use Rattle.emit_paths_laws.specs.Paths.{weigh}
use Rattle.emit_loading_laws.specs.Leading.{LeadsBack}
use Rattle.emit_loading_laws.specs.Filled.{AreApart}
use Rattle.emit_loading_laws.specs.Loaded.{TellsRuns}

-- Two arrays are the tables of the pages that can be read and of those that can be written.
pub record HasTables (heap : Heap) (readable writable : ℕ)
    (readable_pages writable_pages : ℕ → Option ℕ) : Type 0 where
  pub readable_there : heap.array_at readable ≡ Some (pages page_count readable_pages)
  pub writable_there : heap.array_at writable ≡ Some (pages page_count writable_pages)
  pub readable_made : readable < heap.used
  pub writable_made : writable < heap.used
  pub apart : readable ≢ writable

-- the heap with a new array of 1,024 zeros as a page of the table at a place
abbrev pub with_new_page : Heap → ℕ → ℕ → Heap
with_new_page heap table page =
    with_page (with_new heap (ints 1024 (λ _. 0))) table page (Some heap.used)

-- the same with that array as a page of both tables where it can be written
abbrev pub with_made : (readable writable : ℕ) → Heap → ℕ → Bool → Heap
with_made readable writable heap page false = with_new_page heap readable page
with_made readable writable heap page true =
    with_page (with_new_page heap readable page) writable page (Some heap.used)

-- the heap when these pages were made, each with whether it can be written
abbrev pub made : (readable writable : ℕ) → Heap → List (ℕ × Bool) → Heap
made readable writable heap [] = heap
made readable writable heap (x ∷ more) =
    made readable writable (with_made readable writable heap x.0 x.1) more

-- ---- which pages are there then

-- the places of a table's pages, of which one is another
abbrev pub with_place : (ℕ → Option ℕ) → ℕ → ℕ → ℕ → Option ℕ
with_place places page p = λ k. if k == page then Some p else places k

abbrev pub with_place_if : Bool → (ℕ → Option ℕ) → ℕ → ℕ → ℕ → Option ℕ
with_place_if true places page p = with_place places page p
with_place_if false places page p = places

-- the places of the pages that can be read, and of those that can be written, when these were made from a place on
abbrev pub readable_after : (ℕ → Option ℕ) → ℕ → List (ℕ × Bool) → ℕ → Option ℕ
readable_after places used [] = places
readable_after places used (x ∷ more) =
    readable_after (with_place places x.0 used) (used + 1026) more

abbrev pub writable_after : (ℕ → Option ℕ) → ℕ → List (ℕ × Bool) → ℕ → Option ℕ
writable_after places used [] = places
writable_after places used (x ∷ more) =
    writable_after (with_place_if x.1 places x.0 used) (used + 1026) more

-- the pages rise
abbrev pub PagesRise : ℕ → List (ℕ × Bool) → Type 0
PagesRise low [] = Unit {0}
PagesRise low (x ∷ more) = (low ≤ x.0) × PagesRise (suc x.0) more

-- a page is one of these, and one of those that can be written
abbrev pub is_among : List (ℕ × Bool) → ℕ → Bool
is_among xs n = list_any (λ (x : ℕ × Bool). n == x.0) xs

abbrev pub is_written_among : List (ℕ × Bool) → ℕ → Bool
is_written_among xs n = list_any (λ (x : ℕ × Bool). x.1 && (n == x.0)) xs

-- Tables have exactly these pages: each is an array of zeros of its own, and where it can be written the same in both tables.
pub record ArePages (heap : Heap) (readable_pages writable_pages : ℕ → Option ℕ)
    (xs : List (ℕ × Bool)) : Type 0 where
  pub zeros : (n p : ℕ) → readable_pages n ≡ Some p → heap.array_at p ≡ Some (ints 1024 (λ _. 0))
  pub pages_apart : AreApart readable_pages
  pub shared : (n p : ℕ) → writable_pages n ≡ Some p → readable_pages n ≡ Some p
  pub read : (n : ℕ) → is_some (readable_pages n) ≡ is_among xs n
  pub written : (n : ℕ) → is_some (writable_pages n) ≡ is_written_among xs n

-- ---- the laws

-- What arrays are that are made so, behind those of a heap.
pub record MakesPages (readable writable : ℕ) (xs : List (ℕ × Bool)) (heap : Heap) : Type 0 where
  -- the tables have the places of the new arrays, in the order of the pages
  pub tables : (readable_pages writable_pages : ℕ → Option ℕ)
      → HasTables heap readable writable readable_pages writable_pages
      → HasTables (made readable writable heap xs) readable writable
      (readable_after readable_pages heap.used xs) (writable_after writable_pages heap.used xs)
  -- where they were empty and the pages rise, they have exactly these pages
  pub are_pages : HasTables heap readable writable (λ _. None) (λ _. None) → PagesRise 0 xs
      → ArePages (made readable writable heap xs) (readable_after (λ _. None) heap.used xs)
      (writable_after (λ _. None) heap.used xs) xs
  -- each page takes 1,026 words
  pub used_is : (made readable writable heap xs).used ≡ heap.used + 1026 * length xs
  -- further pages are made behind these
  pub joined : (ys : List (ℕ × Bool)) → made readable writable heap (xs ++ ys)
      ≡ made readable writable (made readable writable heap xs) ys

-- What the pages are that can be read below a page.
pub record ListsPages (readable writable : ℕ → Bool) (end : ℕ) : Type 0 where
  pub rise : PagesRise 0 (pages_of readable writable end)
  pub read : (n : ℕ) → is_among (pages_of readable writable end) n ≡ (nat_lt n end && readable n)
  pub written : (n : ℕ) → is_written_among (pages_of readable writable end) n
      ≡ (nat_lt n end && (readable n && writable n))

-- The method that makes pages makes those of the runs that its text tells, in their order, with at
-- most 19 instructions for each page and 27 for each run.
abbrev pub PagesAreMade : Type 0
PagesAreMade =
    (program : Program) (words own m class slot readable writable : ℕ)
    (readable_pages writable_pages : ℕ → Option ℕ) (runs : List PageRun) (w : Workspace)
    (caller : Frame) (others : List Frame)
    → own ≢ m → LiesAt program own 0 pages_code
    → TellsRuns program class slot runs → w.locals 0 ≡ text class slot
    → w.fields readable_field ≡ array readable → w.fields writable_field ≡ array writable
    → HasTables w.heap readable writable readable_pages writable_pages
    → let told = flat_map run_pages runs in
    w.heap.used + 1026 * length told ≤ words
    → LeadsBack program words own m (27 * length runs + 19 * length told + 7)
    (λ weight. (length told + 2) * weigh weight pages_code)
    w caller others (made readable writable w.heap told)
