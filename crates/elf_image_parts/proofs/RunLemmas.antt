-- The pages of an image with those of a run behind them.
use Rattle.std.proofs.Common.{◌≡◌, ℕ, zero, suc, ◌+◌, ◌<◌, ◌≤◌, Bool, true, false, List, [], ◌∷◌, ◌++◌, flat_map, All, refl, ap, sym, ◌∙◌, arith, subst, append_assoc}
use Rattle.std.proofs.lemmas.List.{append-nil}
use Rattle.std.proofs.lemmas.List.Elements.{All-nil, All-push}
use Rattle.std.proofs.lemmas.Grind.{flat_map-append}
use Rattle.elf_image_parts.specs.declared.page_run.PageRun.{PageRun}
use Rattle.elf_image_parts.specs.Runs.{pages_of, pages_from, run_pages, IsRun, AreAlike}

-- one page more, which can be read
more : (readable writable : ℕ → Bool) (page : ℕ) (w : Bool) → readable page ≡ true → writable page ≡ w
    → pages_of readable writable (suc page) ≡ pages_of readable writable page ++ (page, w) ∷ []
unfolding pages_of
more readable writable page w r e = rw (r, e) refl

none : (first : ℕ) (w : Bool) → pages_from first w 0 ≡ []
unfolding pages_from
none first w = refl

one_more : (first : ℕ) (w : Bool) (count : ℕ) → pages_from first w (suc count) ≡ pages_from first w count ++ (first + count, w) ∷ []
unfolding pages_from
one_more first w count = refl

-- one page more, which cannot
pub passed : (readable writable : ℕ → Bool) (page : ℕ) → readable page ≡ false → pages_of readable writable (page + 1) ≡ pages_of readable writable page
unfolding pages_of
passed readable writable page r =
    let e : page + 1 ≡ suc page = omega arith in
    ap (pages_of readable writable) e ∙ rw r (append-nil (pages_of readable writable page))

pub pages_more : (readable writable : ℕ → Bool) (first : ℕ) (w : Bool) (count : ℕ) → AreAlike readable writable first w count
    → pages_of readable writable (first + count) ≡ pages_of readable writable first ++ pages_from first w count
pages_more readable writable first w zero h =
    let e : first + 0 ≡ first = omega arith in
    ap (pages_of readable writable) e
    ∙ sym (append-nil (pages_of readable writable first))
    ∙ ap (λ pages. pages_of readable writable first ++ pages) (sym (none first w))
pages_more readable writable first w (suc count) h =
    let before = pages_more readable writable first w count (λ k less. h k (omega arith)) in
    let last = h count (omega arith) in
    let e : first + suc count ≡ suc (first + count) = omega arith in
    ap (pages_of readable writable) e
    ∙ more readable writable (first + count) w last.0 last.1
    ∙ ap (λ pages. pages ++ (first + count, w) ∷ []) before
    ∙ append_assoc (pages_of readable writable first) (pages_from first w count) ((first + count, w) ∷ [])
    ∙ ap (λ pages. pages_of readable writable first ++ pages) (sym (one_more first w count))

-- ---- runs so far

-- the runs below a page
abbrev pub AreRunsBelow : (ℕ → Bool) → (ℕ → Bool) → List PageRun → ℕ → Type 0
AreRunsBelow readable writable runs page =
    (page ≤ 524288) × (flat_map run_pages runs ≡ pages_of readable writable page) × All IsRun runs

pub no_runs : (readable writable : ℕ → Bool) → AreRunsBelow readable writable [] 0
unfolding pages_of
no_runs readable writable = (omega arith, refl, All-nil IsRun)

pub run_added : (readable writable : ℕ → Bool) (runs : List PageRun) (page : ℕ) (run : PageRun) → AreRunsBelow readable writable runs page → IsRun run
    → run.first ≡ page → AreAlike readable writable page run.writable run.count → AreRunsBelow readable writable (runs ++ run ∷ []) (page + run.count)
run_added readable writable runs page run before sound e alike =
    let low : page + run.count ≤ 524288 = subst (λ p. p + run.count ≤ 524288) e sound.low in
    let pages : flat_map run_pages (runs ++ run ∷ []) ≡ pages_of readable writable (page + run.count) =
    flat_map-append run_pages runs (run ∷ [])
    ∙ ap (λ l. flat_map run_pages runs ++ l) (append-nil (run_pages run))
    ∙ ap (λ l. l ++ run_pages run) before.1
    ∙ ap (λ first. pages_of readable writable page ++ pages_from first run.writable run.count) e
    ∙ sym (pages_more readable writable page run.writable run.count alike) in
    (low, pages, All-push IsRun runs run before.2 sound)

pub page_passed : (readable writable : ℕ → Bool) (runs : List PageRun) (page : ℕ) → AreRunsBelow readable writable runs page → page < 524288
    → readable page ≡ false → AreRunsBelow readable writable runs (page + 1)
page_passed readable writable runs page before low r =
    (omega (arith, low), before.1 ∙ sym (passed readable writable page r), before.2)
