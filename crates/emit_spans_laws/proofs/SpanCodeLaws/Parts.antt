-- The code of a word as it is laid down: where it lies, and what is directly behind it.
use Rattle.std.proofs.Common.{◌≡◌, ℕ, zero, suc, ◌+◌, ◌-◌, ◌<◌, ◌≤◌, Bool, true, false, not, if◌then◌else◌, List, [], ◌∷◌, ◌++◌, map, Option, Some, None, append-nil, refl, ap, subst, sym, ◌∙◌, arith}
use Rattle.std.specs.Prelude.{filter, find}
use Rattle.std.specs.List.{flat_map, range_with_len}
use Rattle.std.specs.Option.{option_map}
use Rattle.std.proofs.lemmas.Bool.{eqb-true, true≢false}
use Rattle.std.proofs.lemmas.List.Concat.{flat_map-append}
use Rattle.std.proofs.lemmas.List.Elements.{filter-append}
use Rattle.delay_slots.specs.declared.unit.Unit.{Unit}
use Rattle.jvm_definition.specs.Program.{Program}
use Rattle.emit_steps.specs.declared.step.Step.{Step}
use Rattle.emit_steps.specs.declared.step.Step.TheVariants.{Does, Skips, Leaves, Selects}
use Rattle.emit_steps.specs.Widths.{size}
use Rattle.emit_steps.specs.Placing.{LiesAt}
use Rattle.word_emitter.specs.declared.extent.Extent.{Extent}
use Rattle.word_emitter.specs.Exits.{follows}
use Rattle.emit_spans.specs.declared.span_words.SpanWords.{SpanWords}
use Rattle.emit_spans.specs.Pieces.{words_before, begins}
use Rattle.emit_spans.specs.Neighbours.{address, is_inner, next_such}
use Rattle.emit_spans.specs.Parts.{warm_part, cold_part}
use Rattle.emit_spans.specs.Laying.{base, warm_before, cold_before, cold_base, entry_at, laid_step}
use Rattle.emit_spans.specs.Standing.{StandsAt}
use Rattle.emit_spans.proofs.BodyLemmas.{size-append, words-append, kept-more}
use Rattle.emit_spans.proofs.StepMarks.{marks}
use Rattle.emit_spans_laws.specs.Resuming.{IsEntryOf}
use Rattle.emit_spans_laws.proofs.SpanCodeLaws.Entering.{lies-behind}

-- ---- code that leaves to no address is laid down as it is

pub laid-unmarked : (span : Extent) (targets : List ℕ) (otherwise : ℕ) (code : List Step) → marks code ≤ 0
    → map (laid_step span targets otherwise) code ≡ code
laid-unmarked span targets otherwise [] none = refl
laid-unmarked span targets otherwise (Does instruction ∷ code) none = ap (λ c. Does instruction ∷ c)
    (laid-unmarked span targets otherwise code (omega (arith, none)))
laid-unmarked span targets otherwise (Skips name k ∷ code) none = ap (λ c. Skips name k ∷ c)
    (laid-unmarked span targets otherwise code (omega (arith, none)))
laid-unmarked span targets otherwise (Leaves target ∷ code) none = absurd (omega (arith, none))
laid-unmarked span targets otherwise (Selects s ∷ code) none = absurd (omega (arith, none))

-- ---- a part lies where it stands, before other code

pub part-lies : (program : Program) (m at : ℕ) (code part : List Step) (stands : StandsAt code part at) → LiesAt program m 0 code
    → LiesAt program m at (part ++ stands.behind)
part-lies program m at code part stands lies =
    let there : 0 + size stands.front ≡ at = (let e = stands.offset in omega (arith, e)) in
    subst (λ a. LiesAt program m a (part ++ stands.behind)) there
    (lies-behind program m 0 stands.front (part ++ stands.behind) (subst (LiesAt program m 0) stands.is lies))

-- ---- the next word that passes a test

-- the first number that passes a test, with none before it that does
record IsFirst (test : ℕ → Bool) (from n k : ℕ) : Type 0 where
  above : from ≤ k
  below : k < from + n
  passes : test k ≡ true
  none_before : filter test (range_with_len from (k - from)) ≡ []

nothing : (k : ℕ) → None ≡ Some k → ⊥
nothing k e = cc

here : (from k : ℕ) → Some from ≡ Some k → from ≡ k
here from k e = cc

-- with one number more before the others
one-more : (test : ℕ → Bool) (n from k : ℕ) → (find test (range_with_len (from + 1) n) ≡ Some k → IsFirst test (from + 1) n k) → (b : Bool)
    → test from ≡ b → (if b then Some from else find test (range_with_len (from + 1) n)) ≡ Some k → IsFirst test from (suc n) k
one-more test n from k later true passes found =
    let same : from ≡ k = here from k found in
    let none : k - from ≡ 0 = omega (arith, same) in
    record {
      above = omega (arith, same);
      below = omega (arith, same);
      passes = subst (λ j. test j ≡ true) same passes;
      none_before = ap (λ l. filter test (range_with_len from l)) none;
    }
one-more test n from k later false fails found =
    let rest = later found in
    let above = rest.above in
    let below = rest.below in
    let more : k - from ≡ suc (k - (from + 1)) = omega (arith, above) in
    let others : List ℕ = filter test (range_with_len (from + 1) (k - (from + 1))) in
    record {
      above = omega (arith, above);
      below = omega (arith, below);
      passes = rest.passes;
      none_before = ap (λ l. filter test (range_with_len from l)) more ∙ ap (λ b. if b then from ∷ others else others) fails ∙ rest.none_before;
    }

first-found : (test : ℕ → Bool) (n from k : ℕ) → find test (range_with_len from n) ≡ Some k → IsFirst test from n k
first-found test zero from k is = absurd (nothing k is)
first-found test (suc n) from k is = one-more test n from k (first-found test n (from + 1) k) (test from) refl is

-- the codes of such words before it end with that of the word before
next-before : (F : ℕ → List Step) (test : ℕ → Bool) (span : SpanWords) (k j : ℕ) → span.first ≤ k → test k ≡ true
    → IsFirst test (k + 1) (span.end - (k + 1)) j
    → size (flat_map F (filter test (words_before span j))) ≡ size (flat_map F (filter test (words_before span k))) + size (F k)
next-before F test span k j above passes found =
    let up = found.above in
    let words : filter test (words_before span j) ≡ filter test (words_before span k) ++ k ∷ [] =
    ap (filter test) (words-append span (k + 1) j (omega (arith, above)) up)
    ∙ filter-append test (words_before span (k + 1)) (range_with_len (k + 1) (j - (k + 1)))
    ∙ ap (λ l. filter test (words_before span (k + 1)) ++ l) found.none_before
    ∙ append-nil (filter test (words_before span (k + 1)))
    ∙ kept-more test span k above passes in
    let code : flat_map F (filter test (words_before span j)) ≡ flat_map F (filter test (words_before span k)) ++ flat_map F (k ∷ []) =
    ap (flat_map F) words ∙ flat_map-append F (filter test (words_before span k)) (k ∷ []) in
    let one : size (flat_map F (k ∷ [])) ≡ size (F k) = ap size (append-nil (F k)) in
    let sizes : size (flat_map F (filter test (words_before span j))) ≡ size (flat_map F (filter test (words_before span k)) ++ flat_map F
    (k ∷ [])) = ap size code in
    let both = size-append (flat_map F (filter test (words_before span k))) (flat_map F (k ∷ [])) in
    omega (arith, sizes, both, one)

module _ (units : List Unit) (leads : ℕ → Bool) (span : SpanWords) (k : ℕ) (above : span.first ≤ k) (below : k < span.end) where
  entry-cold : (j : ℕ) → begins leads span j ≡ false → entry_at units leads span j
      ≡ cold_base units leads span + size (cold_before units leads span j)
  entry-cold j inner = ap (λ b. if b then base span + size (warm_before units leads span j) else cold_base units leads span + size
      (cold_before units leads span j)) inner

  entry-warm : (j : ℕ) → begins leads span j ≡ true → entry_at units leads span j ≡ base span + size (warm_before units leads span j)
  entry-warm j is = ap (λ b. if b then base span + size (warm_before units leads span j) else cold_base units leads span + size
      (cold_before units leads span j)) is

  -- the address whose code is directly behind
  behind-is : (found : Option ℕ) (a : ℕ) → follows (option_map (address span) found) a ≡ true → (j : ℕ) × (found ≡ Some j) × (a ≡ address span j)
  behind-is None a is = absurd (true≢false (sym is))
  behind-is (Some j) a is = (j, refl, sym (eqb-true (address span j) a is))

  pub cold-behind : begins leads span k ≡ false → (a : ℕ) → follows (next_such (is_inner leads span) span k) a ≡ true
      → IsEntryOf units leads span (entry_at units leads span k + size (cold_part units leads span k)) a
  cold-behind inner a is =
      let next = behind-is (find (is_inner leads span) (range_with_len (k + 1) (span.end - (k + 1)))) a is in
      let found = first-found (is_inner leads span) (span.end - (k + 1)) (k + 1) next.0 next.1 in
      let up = found.above in
      let low = found.below in
      let there = entry-cold next.0 (not-true (begins leads span next.0) found.passes) in
      let here = entry-cold k inner in
      let sizes = next-before (cold_part units leads span) (is_inner leads span) span k next.0 above (ap not inner) found in
      record {
        word = next.0;
        above = omega (arith, up, above);
        below = omega (arith, low, below);
        is_there = next.2;
        entry = omega (arith, there, here, sizes);
      }
    where
      not-true : (b : Bool) → not b ≡ true → b ≡ false
      not-true true e = absurd (true≢false (sym e))
      not-true false e = refl

  pub warm-behind : begins leads span k ≡ true → (a : ℕ) → follows (next_such (begins leads span) span k) a ≡ true
      → IsEntryOf units leads span (entry_at units leads span k + size (warm_part units leads span k)) a
  warm-behind begin a is =
      let next = behind-is (find (begins leads span) (range_with_len (k + 1) (span.end - (k + 1)))) a is in
      let found = first-found (begins leads span) (span.end - (k + 1)) (k + 1) next.0 next.1 in
      let up = found.above in
      let low = found.below in
      let there = entry-warm next.0 found.passes in
      let here = entry-warm k begin in
      let sizes = next-before (warm_part units leads span) (begins leads span) span k next.0 above begin found in
      record {
        word = next.0;
        above = omega (arith, up, above);
        below = omega (arith, low, below);
        is_there = next.2;
        entry = omega (arith, there, here, sizes);
      }
