-- Runs of pages, and their texts.
use Rattle.std.specs.Prelude.{◌≡◌, ℕ, zero, suc, true, ◌+◌, ◌-◌, ◌/◌, ◌%◌, ◌^◌, ◌<◌, ◌≤◌, Bool, if◌then◌else◌, List, [], ◌∷◌, ◌++◌, flat_map}
use Rattle.elf_image_parts.specs.declared.page_run.PageRun.{PageRun}

-- the pages below a number that can be read, in rising order, each with whether it can be written
unfoldable pub pages_of : (ℕ → Bool) → (ℕ → Bool) → ℕ → List (ℕ × Bool)
pages_of readable writable zero = []
pages_of readable writable (suc page) =
    pages_of readable writable page ++ (if readable page then (page, writable page) ∷ [] else [])

-- so many pages from one on, all of them writable or none
unfoldable pub pages_from : ℕ → Bool → ℕ → List (ℕ × Bool)
pages_from first writable zero = []
pages_from first writable (suc count) =
    pages_from first writable count ++ (first + count, writable) ∷ []

-- the pages of a run
abbrev pub run_pages : PageRun → List (ℕ × Bool)
run_pages run = pages_from run.first run.writable run.count

-- a run has 1 to 65,536 pages, all below 80000000 (hexadecimal)
pub record IsRun (run : PageRun) : Type 0 where
  pub some : 1 ≤ run.count
  pub few : run.count ≤ 65536
  pub low : run.first + run.count ≤ 2 ^ 19

-- The three characters of a run: the first page divided by 4,096, with 128 added where the pages can be written; its rest; and how many
-- pages follow the first.
abbrev pub run_text : PageRun → List ℕ
run_text run = (run.first / 4096 + (if run.writable then 128 else 0)) ∷ (run.first % 4096)
    ∷ (run.count - 1) ∷ []

abbrev pub text_of : List PageRun → List ℕ
text_of runs = flat_map run_text runs

-- Pages from one on, so many: all can be read, and all or none can be written.
abbrev pub AreAlike : (ℕ → Bool) → (ℕ → Bool) → ℕ → Bool → ℕ → Type 0
AreAlike readable writable first w count =
    (k : ℕ) → k < count → (readable (first + k) ≡ true) × (writable (first + k) ≡ w)
