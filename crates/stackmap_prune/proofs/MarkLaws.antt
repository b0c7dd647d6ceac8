-- Marks at offsets.
use Rattle.std.proofs.Common.{◌≡◌, ℕ, suc, ◌+◌, ◌<◌, ◌≤◌, Bool, true, false, ◌||◌, eqb, List, [], ◌∷◌, ◌++◌, length, set, get_or, Some, refl, sym, ap, ◌∙◌, arith, ⊎_elim}
use Rattle.std.specs.Prelude.{if◌then◌else◌, is_some}
use Rattle.std.proofs.lemmas.Bool.{cases_eq, eq-eqb, ne_eqb}
use Rattle.std.proofs.lemmas.List.{get_or-set_same, get_or-set_other, nil_from_length}
use Rattle.jvm_type_inference.specs.declared.frame.Frame.{Frame}
use Rattle.jvm_type_inference.specs.Frames.{type_frame}
use Rattle.type_verifier.specs.Typings.{listed_frames, RisesFrom}
use Rattle.stackmap_prune.specs.Code.{is_listed}
use Rattle.stackmap_prune.specs.Linked.{is_marked}
use Rattle.stackmap_prune.specs.Listing.{AreListedBefore}

or-true : (b : Bool) → (b || true) ≡ true
or-true true = refl
or-true false = refl

or-false : (b : Bool) → (b || false) ≡ b
or-false true = refl
or-false false = refl

pub marked-at : (marks : List Bool) (k at : ℕ) → at < length marks → is_marked (set marks k true) at ≡ (is_marked marks at || eqb k at)
marked-at marks k at inside =
    ⊎_elim
    (λ (same : at ≡ k).
    let here : is_marked (set marks k true) at ≡ true = ap (λ n. get_or (set marks k true) n false) same ∙ get_or-set_same marks k true false (omega (arith, inside, same)) in
    here ∙ sym (ap (λ b. is_marked marks at || b) (eq-eqb k at (sym same)) ∙ or-true (is_marked marks at)))
    (λ (apart : at ≡ k → ⊥).
    get_or-set_other marks k at true false apart ∙ sym (ap (λ b. is_marked marks at || b) (ne_eqb k at (λ e. apart (sym e))) ∙ or-false (is_marked marks at)))
    (cases_eq at k)

-- where the mark is within them, anywhere
pub marked-in : (marks : List Bool) (k at : ℕ) → k < length marks → is_marked (set marks k true) at ≡ (is_marked marks at || eqb k at)
marked-in marks k at inside =
    ⊎_elim
    (λ (same : at ≡ k). marked-at marks k at (omega (arith, inside, same)))
    (λ (apart : at ≡ k → ⊥).
    get_or-set_other marks k at true false apart ∙ sym (ap (λ b. is_marked marks at || b) (ne_eqb k at (λ e. apart (sym e))) ∙ or-false (is_marked marks at)))
    (cases_eq at k)

-- ---- offsets that are listed

first-listed : (l : ℕ × Frame) (listed : List (ℕ × Frame)) (at : ℕ) → is_listed (l ∷ listed) at ≡ (eqb l.0 at || is_listed listed at)
first-listed l listed at = by-test (eqb l.0 at)
  where
    by-test : (b : Bool) → is_some (if b then Some (type_frame l.1) else listed_frames listed at) ≡ (b || is_some (listed_frames listed at))
    by-test true = refl
    by-test false = refl

or-assoc : (a b c : Bool) → ((a || b) || c) ≡ (a || (b || c))
or-assoc true b c = refl
or-assoc false b c = refl

pub first-marked : (marks after : List Bool) (l : ℕ × Frame) (rest others : List (ℕ × Frame)) (at : ℕ) (total : Bool) → rest ≡ l ∷ others → l.0 < length marks → after ≡ set marks l.0 true → (is_marked marks at || is_listed rest at) ≡ total → (is_marked after at || is_listed others at) ≡ total
first-marked marks after l rest others at total first inside made so_far =
    ap (λ b. b || is_listed others at) (ap (λ ms. is_marked ms at) made ∙ marked-in marks l.0 at inside)
    ∙ (or-assoc (is_marked marks at) (eqb l.0 at) (is_listed others at)
    ∙ (ap (λ b. is_marked marks at || b) (sym (first-listed l others at)) ∙ (ap (λ ls. is_marked marks at || is_listed ls at) (sym first) ∙ so_far)))

pub all-listed : (marks : List Bool) (rest : List (ℕ × Frame)) (at : ℕ) (total : Bool) → length rest ≡ 0 → (is_marked marks at || is_listed rest at) ≡ total → is_marked marks at ≡ total
all-listed marks rest at total none so_far =
    sym (or-false (is_marked marks at)) ∙ (ap (λ ls. is_marked marks at || is_listed ls at) (sym (nil_from_length rest none)) ∙ so_far)

-- the last one stands behind each of them
pub listed-before : (start : ℕ) (others : List (ℕ × Frame)) (last : ℕ × Frame) → RisesFrom start (others ++ last ∷ []) → AreListedBefore (last.0 + 1) (others ++ last ∷ []) × (start ≤ last.0)
listed-before start [] last r = ((omega arith, tt), r.0)
listed-before start (l ∷ others) last r =
    let k = listed-before (suc l.0) others last r.1 in
    ((omega (arith, k.1), k.0), omega (arith, r.0, k.1))
