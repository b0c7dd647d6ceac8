-- The pages of a program, their runs and the classes of data are few.
use Rattle.std.proofs.Common.{◌≡◌, ℕ, zero, suc, ◌+◌, ◌≤◌, Bool, true, false, if◌then◌else◌, List, [], ◌∷◌, length, map, flat_map, All, refl, ap, arith, length-append}
use Rattle.std.proofs.lemmas.List.{length-map, length_push}
use Rattle.std.proofs.lemmas.List.Elements.{All-head, All-tail}
use Rattle.elf_definition.specs.Segments.{live}
use Rattle.elf_definition.specs.Content.{is_filled_page}
use Rattle.elf_definition.specs.Pages.{pages_below}
use Rattle.elf_definition.specs.Start.{Source}
use Rattle.elf_image_parts.specs.declared.page_run.PageRun.{PageRun}
use Rattle.elf_image_parts.specs.Runs.{IsRun, pages_from, pages_of, run_pages}
use Rattle.elf_image_parts.specs.Pages.{page_at, filled_below}
use Rattle.method_splitter.specs.Shares.{share_count}
use Rattle.translate_classes.specs.declared.page_data.PageData.{PageData}
use Rattle.translate_classes.specs.Pages.{page_of}
use Rattle.translate_program.specs.DataFiles.{class_pages, class_count, filled_pages}

one-few : {A : Type 0} (test : Bool) (x : A) → length (if test then x ∷ [] else []) ≤ 1
one-few true x = omega arith
one-few false x = omega arith

-- ---- pages that are not all zero

pub filled-few : (source : Source) (n : ℕ) → length (filled_below source n) ≤ n
unfolding filled_below
filled-few source zero = omega arith
filled-few source (suc n) =
    let test = is_filled_page source.file (live source.file) n in
    omega (arith, one-few test (page_at source n), filled-few source n, length-append (filled_below source n) (if test then page_at source n ∷ [] else []))

shares-few : (n : ℕ) → n ≤ 524288 → share_count class_pages n ≤ 512
shares-few n few = omega (arith, few)

pub data-few : (source : Source) → class_count (filled_pages source) ≤ 512
data-few source = shares-few (length (filled_pages source)) (filled-few source pages_below)

-- the classes that have these pages
pub classes-few : (source : Source) (pages : List PageData) → map page_of pages ≡ filled_below source pages_below → share_count class_pages (length pages) ≤ 512
classes-few source pages are =
    shares-few (length pages) (omega (arith, length-map pages page_of, ap length are, filled-few source pages_below))

-- ---- pages that can be read

pages-few : (readable writable : ℕ → Bool) (n : ℕ) → length (pages_of readable writable n) ≤ n
unfolding pages_of
pages-few readable writable zero = omega arith
pages-few readable writable (suc n) =
    let page : ℕ × Bool = (n, writable n) in
    omega (arith, one-few (readable n) page, pages-few readable writable n, length-append (pages_of readable writable n) (if readable n then page ∷ [] else []))

from-count : (first : ℕ) (writable : Bool) (count : ℕ) → length (pages_from first writable count) ≡ count
unfolding pages_from
from-count first writable zero = refl
from-count first writable (suc count) =
    let page : ℕ × Bool = (first + count, writable) in
    omega (arith, from-count first writable count, length_push (pages_from first writable count) page)

runs-within : (runs : List PageRun) → All IsRun runs → length runs ≤ length (flat_map run_pages runs)
runs-within [] are = omega arith
runs-within (run ∷ runs) are =
    let some : 1 ≤ run.count = (All-head IsRun run runs are).some in
    omega (
      arith,
      some,
      from-count run.first run.writable run.count,
      length-append (run_pages run) (flat_map run_pages runs),
      runs-within runs (All-tail IsRun run runs are),
    )

pub runs-few : (readable writable : ℕ → Bool) (n : ℕ) (runs : List PageRun) → All IsRun runs → flat_map run_pages runs ≡ pages_of readable writable n
    → length runs ≤ n
runs-few readable writable n runs are pages = omega (arith, runs-within runs are, ap length pages, pages-few readable writable n)
