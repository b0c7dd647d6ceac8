-- The codes of words as they are laid down.
use Rattle.std.proofs.Common.{◌≡◌, ℕ, zero, suc, ◌+◌, ◌-◌, ◌/◌, ◌<◌, ◌≤◌, ◌==◌, Bool, true, false, if◌then◌else◌, ◌⊎◌, inl, inr, List, [], ◌∷◌, ◌++◌, All, length, map, take, drop, get_or, min, refl, sym, ap, subst, ◌∙◌, arith}
use Rattle.std.specs.Prelude.{nat_le, Option, Some, None}
use Rattle.std.specs.List.{flat_map, list_all, list_any}
use Rattle.std.proofs.lemmas.Bool.{and_parts, cases_lt, eq-eqb, false≢true, leb-true, or_left, or_right}
use Rattle.std.proofs.lemmas.List.{get_or-drop, get_or-take, get_or_default, get_or_past, length-drop, length-take, take_all, take_more}
use Rattle.std.proofs.lemmas.List.Elements.{All-nil, All-cons, All-drop, All-take}
use Rattle.std.proofs.lemmas.List.Folds.{list_all-append}
use Rattle.delay_slots.specs.declared.unit.Unit.{Unit}
use Rattle.delay_slots.specs.declared.unit.Unit.TheVariants.{Call}
use Rattle.block_builder.specs.declared.block.Block.{Block}
use Rattle.block_builder.specs.Leaders.{is_plain, words_of}
use Rattle.block_builder.specs.Blocks.{IsPiece, unit_at, end_of}
use Rattle.block_builder.proofs.BlockLemmas.{has_words}
use Rattle.jvm_definition.specs.Program.{Program}
use Rattle.jvm_definition.specs.Typing.{TypeFrame}
use Rattle.emit_steps.specs.declared.step.Step.{Step}
use Rattle.emit_steps.specs.declared.step.Step.TheVariants.{Does, Skips, Leaves, Selects}
use Rattle.word_emitter.specs.declared.extent.Extent.{Extent}
use Rattle.word_emitter.specs.Exits.{has, exit_code}
use Rattle.emit_instructions.specs.Units.{unit_code}
use Rattle.word_emitter.specs.Pieces.{ends_with_slot, piece_units, warm_code}
use Rattle.emit_simulation_laws.specs.Lawful.{IsLawful}
use Rattle.emit_spans.specs.declared.span_words.SpanWords.{SpanWords}
use Rattle.emit_spans.specs.Keeping.{keeps_to}
use Rattle.emit_spans.specs.Pieces.{begins, piece_at}
use Rattle.emit_spans.specs.Neighbours.{address, is_inner, next_such}
use Rattle.emit_spans.specs.Parts.{extent, exit_of, warm_part, front_of, cold_part}
use Rattle.emit_spans.specs.Laying.{entry_of, laid_step}
use Rattle.emit_spans.proofs.PieceLemmas.{unit-count, unit-followed}
use Rattle.emit_types_laws.specs.Judging.{Rules, Carries, Leads, Meets, is_no_switch, redirected}
use Rattle.emit_types_laws.proofs.TypedSteps.Joining.{code-redirected, codes-lead, nothing-leads}
use Rattle.emit_types_laws.proofs.TypedSteps.KindOrder.{same}
use Rattle.emit_types_laws.specs.Knowing.{HelperTypes, Opens, unknown}
use Rattle.emit_types_laws.specs.Laws.{ColdPartsAreTyped, GuardsAreTyped, WarmPartsAreTyped}
use Rattle.emit_types_laws.specs.Spans.{owes_unknown}
use Rattle.emit_types_laws.proofs.TypedSpans.Fronts.{going_to, goal-met}

-- ---- steps that leave

-- Before code is laid down, it leaves to addresses of words of the span.
abbrev owes_words : Extent → ℕ → Option TypeFrame
owes_words span at = if has span at then Some unknown else None

abbrev pub inside : Program → Extent → Rules
inside program span = record { program = program; owes = owes_words span; more = 2 }

pub opens : (program : Program) (span : Extent) → Opens (inside program span) span
opens program span at is = subst (λ b. Meets unknown (if b then Some unknown else None)) (sym is) (same unknown)

-- what is found in a list is the default or stands there
found : (xs : List ℕ) (i d : ℕ) → (get_or xs i d ≡ d) ⊎ (list_any (λ x. x == get_or xs i d) xs ≡ true)
found [] i d = inl refl
found (x ∷ xs) zero d = inr (or_left (x == x) (list_any (λ y. y == x) xs) (eq-eqb x x refl))
found (x ∷ xs) (suc i) d = elim (found xs i d) [
  | inl is ↦ inl is
  | inr there ↦ inr (or_right (x == get_or xs i d) (list_any (λ y. y == get_or xs i d) xs) there)
]

target-there : (targets : List ℕ) (i otherwise : ℕ) → list_any (λ goal. goal == get_or targets i otherwise) (otherwise ∷ targets) ≡ true
target-there targets i otherwise =
    let at = get_or targets i otherwise in
    elim (found targets i otherwise) [
      | inl is ↦ or_left (otherwise == at) (list_any (λ goal. goal == at) targets) (eq-eqb otherwise at (sym is))
      | inr there ↦ or_right (otherwise == at) (list_any (λ goal. goal == at) targets) there
    ]

-- where an address of a word is left to, its code is gone to
laid-carries : (program : Program) (span : Extent) (targets : List ℕ) (otherwise : ℕ)
    → Carries (entry_of span targets otherwise) (inside program span) (going_to program (otherwise ∷ targets))
laid-carries program span targets otherwise at f = by_test (has span at)
  where
    there : ℕ
    there = get_or targets ((at - span.first) / 4) otherwise

    by_test : (b : Bool) → Meets f (if b then Some unknown else None)
        → Meets f (owes_unknown (otherwise ∷ targets) (if b then there else otherwise))
    by_test true below = goal-met (otherwise ∷ targets) there f below (target-there targets ((at - span.first) / 4) otherwise)
    by_test false below = absurd below

laid-redirected : (span : Extent) (targets : List ℕ) (otherwise : ℕ) (code : List Step)
    → map (redirected (entry_of span targets otherwise)) code ≡ map (laid_step span targets otherwise) code
laid-redirected span targets otherwise [] = refl
laid-redirected span targets otherwise (Does instruction ∷ code) = ap (λ c. Does instruction ∷ c) (laid-redirected span targets otherwise code)
laid-redirected span targets otherwise (Skips name k ∷ code) = ap (λ c. Skips name k ∷ c) (laid-redirected span targets otherwise code)
laid-redirected span targets otherwise (Leaves at ∷ code) =
    ap (λ c. Leaves (entry_of span targets otherwise at) ∷ c) (laid-redirected span targets otherwise code)
laid-redirected span targets otherwise (Selects s ∷ code) = ap (λ c. Selects s ∷ c) (laid-redirected span targets otherwise code)

no-switches : (span : Extent) (code : List Step) → list_all (keeps_to span) code ≡ true → All (λ s. is_no_switch s ≡ true) code
no-switches span [] keeps = All-nil (λ s. is_no_switch s ≡ true)
no-switches span (Does instruction ∷ code) keeps =
    All-cons (λ s. is_no_switch s ≡ true) (Does instruction) code refl (no-switches span code keeps)
no-switches span (Skips name k ∷ code) keeps = All-cons (λ s. is_no_switch s ≡ true) (Skips name k) code refl (no-switches span code keeps)
no-switches span (Leaves at ∷ code) keeps =
    All-cons (λ s. is_no_switch s ≡ true) (Leaves at) code refl
    (no-switches span code (and_parts (has span at) (list_all (keeps_to span) code) keeps).1)
no-switches span (Selects s ∷ code) keeps = absurd (false≢true keeps)

-- code that keeps to its span is typed as it is laid down
pub laid-leads : (program : Program) (span : Extent) (targets : List ℕ) (otherwise : ℕ) (code : List Step)
    → list_all (keeps_to span) code ≡ true → Leads (inside program span) code unknown unknown
    → Leads (going_to program (otherwise ∷ targets)) (map (laid_step span targets otherwise) code) unknown unknown
laid-leads program span targets otherwise code keeps t =
    subst (λ c. Leads (going_to program (otherwise ∷ targets)) c unknown unknown) (laid-redirected span targets otherwise code)
    (code-redirected program (owes_words span) (owes_unknown (otherwise ∷ targets)) (entry_of span targets otherwise) code unknown (unknown ∷ [])
    (laid-carries program span targets otherwise) (no-switches span code keeps) t)

-- each of some codes keeps to its span where all of them do
pub each-keeps : (test : Step → Bool) (part : ℕ → List Step) (ks : List ℕ) → list_all test (flat_map part ks) ≡ true
    → All (λ k. list_all test (part k) ≡ true) ks
each-keeps test part [] keeps = All-nil (λ k. list_all test (part k) ≡ true)
each-keeps test part (k ∷ ks) keeps =
    let both = and_parts (list_all test (part k)) (list_all test (flat_map part ks))
    (sym (list_all-append test (part k) (flat_map part ks)) ∙ keeps) in
    All-cons (λ k. list_all test (part k) ≡ true) k ks both.0 (each-keeps test part ks both.1)

-- ---- the units of a piece

-- the last of some units, which are taken from a word on
last-of : (units : List Unit) (k n : ℕ) → 1 ≤ n → k < length units
    → take n (drop k units)
    ≡ take (length (take n (drop k units)) - 1) (take n (drop k units)) ++ unit_at units (k + length (take n (drop k units)) - 1) ∷ []
last-of units k n some below =
    let own = take n (drop k units) in
    let left = length-drop k units in
    let count : length own ≡ min n (length (drop k units)) = length-take n (drop k units) in
    let last = length own - 1 in
    let more : last + 1 ≡ length own = omega (arith, some, below, left, count) in
    let whole : take (last + 1) own ≡ own = take_all (last + 1) own (omega (arith, more)) in
    let less : last < n = omega (arith, some, below, left, count) in
    let place : k + last ≡ k + length own - 1 = omega (arith, more) in
    let unit : get_or own last Call ≡ unit_at units (k + length own - 1) =
    get_or-take n (drop k units) last Call less ∙ get_or-drop k units last Call ∙ ap (unit_at units) place in
    sym whole ∙ take_more own last Call (omega (arith, more)) ∙ ap (λ unit. take last own ++ unit ∷ []) unit

some-units : (units : List Unit) (b : Block) → 1 ≤ b.words → 1 ≤ (if ends_with_slot units b then b.words - 1 else b.words)
some-units units b some = by_test (ends_with_slot units b) refl
  where
    by_test : (slot : Bool) → ends_with_slot units b ≡ slot → 1 ≤ (if slot then b.words - 1 else b.words)
    by_test true is =
        let parts = and_parts (nat_le 2 b.words) (words_of (unit_at units (b.first + b.words - 2)) == 2) is in
        let two : 2 ≤ b.words = leb-true 2 b.words parts.0 in
        omega (arith, two)
    by_test false is = some

some-words : (units : List Unit) (leads : ℕ → Bool) (span : SpanWords) (k : ℕ) → k < span.end → 1 ≤ (piece_at units leads span k).words
some-words units leads span k below =
    let some = has_words (unit_at units (end_of units leads k)) in
    omega (arith, some, below)

-- the units of a piece before its last one are Plain
before-plain : (units : List Unit) (b : Block) (piece : IsPiece units b) (n : ℕ) → n + 1 ≤ unit-count units b
    → All (λ unit. is_plain unit ≡ true) (take n (take (unit-count units b) (drop b.first units)))
before-plain units b piece n few i d less =
    let own = take (unit-count units b) (drop b.first units) in
    let counted : length (take n own) ≡ min n (length own) = length-take n own in
    let below : i < n = omega (arith, less, counted) in
    let is : get_or (take n own) i d ≡ unit_at units (b.first + i) =
    get_or_default (take n own) i d Call less ∙ get_or-take n own i Call below
    ∙ get_or-take (unit-count units b) (drop b.first units) i Call (omega (arith, below, few)) ∙ get_or-drop b.first units i Call in
    ap is_plain is ∙ piece.straight (b.first + i) (omega arith) (unit-followed units b i (omega (arith, below, few)))

-- ---- the codes of words

module _ (program : Program) (helpers : HelperTypes program) (warm : WarmPartsAreTyped) (cold : ColdPartsAreTyped) (guards : GuardsAreTyped) (units : List Unit) (lawful : All IsLawful units) (leads : ℕ → Bool) (span : SpanWords)
    (within : span.end ≤ length units) where
  unit-lawful : (k : ℕ) → IsLawful (unit_at units k)
  unit-lawful k = elim (cases_lt k (length units)) [
    | inl below ↦ lawful k Call below
    | inr past ↦ subst IsLawful (sym (get_or_past units k Call past)) tt
  ]

  guarded : (metered : Bool) (unit : Unit) (at : ℕ) → Leads (inside program (extent span)) (front_of metered unit at) unknown unknown
  guarded true unit at = guards unit (inside program (extent span)) at
  guarded false unit at = nothing-leads (inside program (extent span)) unknown

  pub cold-part-leads : (k : ℕ) → Leads (inside program (extent span)) (cold_part units leads span k) unknown unknown
  cold-part-leads k =
      let unit = unit_at units k in
      let at = address span k in
      let behind = next_such (is_inner leads span) span k in
      codes-lead (inside program (extent span)) (front_of span.metered unit at) (unit_code 0 unit at ++ exit_of units span behind k) unknown
      unknown (unknown ∷ []) (guarded span.metered unit at)
      (cold unit (inside program (extent span)) at (extent span) behind (omega arith) helpers (unit-lawful k) (opens program (extent span)))

  pub warm-part-leads : (k : ℕ) → k < span.end → IsPiece units (piece_at units leads span k)
      → Leads (inside program (extent span)) (warm_part units leads span k) unknown unknown
  warm-part-leads k below piece =
      let block = piece_at units leads span k in
      let count = if ends_with_slot units block then block.words - 1 else block.words in
      let own : List Unit = piece_units units block in
      let before : List Unit = take (length own - 1) own in
      let last : Unit = unit_at units (k + length own - 1) in
      let some = some-units units block (some-words units leads span k below) in
      let is : own ≡ before ++ last ∷ [] =
      last-of units k count some (omega (arith, below, within)) in
      let left = length-drop k units in
      let counted : length own ≡ min count (length (drop k units)) = length-take count (drop k units) in
      let own_few : length own ≤ count = omega (arith, counted) in
      let own_some : 1 ≤ length own = omega (arith, counted, some, left, below, within) in
      let own_lawful : All IsLawful own = All-take IsLawful count (drop k units) (All-drop IsLawful k units lawful) in
      let behind = next_such (begins leads span) span k in
      let place = address span (k + length own - 1) in
      subst (λ all. Leads (inside program (extent span)) (warm_code all (address span k) ++ exit_code (extent span) behind last place) unknown unknown)
      (sym is)
      (warm before last (inside program (extent span)) (address span k) (extent span) behind place (omega arith) helpers
      (before-plain units block piece (length own - 1) (omega (arith, own_few, own_some))) (subst (All IsLawful) is own_lawful)
      (opens program (extent span)))
