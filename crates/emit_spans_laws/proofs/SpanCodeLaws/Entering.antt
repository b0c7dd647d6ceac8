-- From the beginning of the method to the code of a word.
use Rattle.std.proofs.Common.{◌≡◌, ℕ, zero, suc, ◌+◌, ◌-◌, ◌*◌, ◌%◌, ◌^◌, ◌<◌, ◌≤◌, pos, ◌-ℤ◌, Bool, true, false, List, [], ◌∷◌, ◌++◌, length, map, replicate, slice_get, Some, append_assoc, refl, ap, subst, sym, ◌∙◌, arith}
use Rattle.std.specs.List.{range_with_len}
use Rattle.run_definition.specs.Words.{IsWord, signed_of}
use Rattle.delay_slots.specs.declared.unit.Unit.{Unit}
use Rattle.jvm_definition.specs.declared.int_arithmetic.IntArithmetic.TheVariants.{Isub}
use Rattle.jvm_definition.specs.declared.value.Value.TheVariants.{Int as int}
use Rattle.jvm_definition.specs.declared.instruction.Instruction.{Instruction}
use Rattle.jvm_definition.specs.declared.instruction.Instruction.TheVariants.{Nop}
use Rattle.jvm_definition.specs.Program.{Program}
use Rattle.jvm_definition.specs.Effect.{Workspace, with_operands, pushes, table_target}
use Rattle.emit_steps.specs.declared.step.Step.{Step}
use Rattle.emit_steps.specs.declared.step.Step.TheVariants.{Does}
use Rattle.emit_steps.specs.Widths.{size, width}
use Rattle.emit_steps.specs.Outcomes.{Outcome, left, later, after_instruction, outcome, outcome_from, selected, stays_within}
use Rattle.emit_steps.specs.Placing.{LiesAt}
use Rattle.emit_layout.specs.FieldNumbers.{pc_field}
use Rattle.emit_instructions.specs.Access.{push_word, arithmetic}
use Rattle.emit_steps.specs.Returning.{returns}
use Rattle.word_emitter.specs.Exits.{has}
use Rattle.emit_spans.specs.declared.span_words.SpanWords.{SpanWords}
use Rattle.emit_spans.specs.Neighbours.{address}
use Rattle.emit_spans.specs.Parts.{extent}
use Rattle.emit_spans.specs.Opening.{turned_code, index_code, padding, opening}
use Rattle.emit_spans.specs.Laying.{base, entry_at, targets_of, return_offset, laid_step, switch, warm_before, cold_before, span_code}
use Rattle.emit_spans.proofs.BodyLemmas.{size-append}
use Rattle.emit_spans.proofs.SizeLemmas.{size-laid}
use Rattle.emit_spans.proofs.TargetLemmas.{told-length}
use Rattle.emit_paths_laws.specs.Paths.{PathWithin, weigh}
use Rattle.emit_paths_laws.proofs.Joining.{path-wider}
use Rattle.emit_simulation_laws.specs.Sites.{Site, stands}
use Rattle.emit_simulation_laws.specs.Laws.{PathLaws}
use Rattle.emit_spans_laws.specs.Entering.{entering, IsEntered}
use Rattle.emit_spans_laws.proofs.SpanCodeLaws.Index.{distance, turned, turned-word, number-within, number-outside, index-of-word, index-of-other}

-- ---- where code lies

-- what is behind other code lies behind it
pub lies-behind : (program : Program) (m at : ℕ) (first second : List Step) → LiesAt program m at (first ++ second)
    → LiesAt program m (at + size first) second
lies-behind program m at [] second lies = let here : at ≡ at + 0 = omega arith in subst (λ a. LiesAt program m a second) here lies
lies-behind program m at (s ∷ first) second lies =
    let sum : at + width s + size first ≡ at + (width s + size first) = omega arith in
    subst (λ a. LiesAt program m a second) sum (lies-behind program m (at + width s) first second lies.1)

-- ---- what the code does

-- an outcome seen from so many instructions before
abbrev executed : ℕ → Outcome → Outcome
executed zero o = o
executed (suc k) o = later (executed k o)

executed-left : (n k target : ℕ) (w : Workspace) → executed n (left k target w) ≡ left (n + k) target w
executed-left zero k target w = let none : k ≡ 0 + k = omega arith in ap (λ j. left j target w) none
executed-left (suc n) k target w =
    let more : suc (n + k) ≡ suc n + k = omega arith in
    ap later (executed-left n k target w) ∙ ap (λ j. left j target w) more

module _ (program : Program) (words : ℕ) where
  nops : (n : ℕ) (code : List Step) (w : Workspace)
      → outcome program words (replicate n (Does Nop) ++ code) w ≡ executed n (outcome program words code w)
  nops zero code w = refl
  nops (suc n) code w = ap later (nops n code w)

  module _ (first a : ℕ) (w : Workspace) (is : w.fields pc_field ≡ int a) where
    abbrev indexed : Workspace
    indexed = with_operands w (int (turned (distance first a)) ∷ w.operands)

    index : (code : List Step) → outcome program words (index_code first ++ code) w ≡ executed 10 (outcome program words code indexed)
    index code = ap
        (λ v. after_instruction w (pushes w v w.operands) (outcome_from program words (push_word first ∷ arithmetic Isub ∷ turned_code ++ code) 0)) is

    module _ (targets : List ℕ) (otherwise number target : ℕ)
        (number_is : table_target (signed_of (turned (distance first a)) -ℤ pos 0) (length targets) ≡ number)
        (target_is : slice_get (otherwise ∷ targets) number ≡ Some target) where
      selects : outcome program words (switch targets otherwise ∷ []) indexed ≡ left 1 target w
      selects = ap (λ k. selected indexed k w (slice_get (otherwise ∷ targets) k)) number_is ∙ ap (selected indexed number w) target_is

      pub enters : outcome program words (opening first ++ switch targets otherwise ∷ []) w
          ≡ left ((3 * size (index_code first) + 3) % 4 + (10 + 1)) target w
      enters =
          ap (λ code. outcome program words code w) (append_assoc (padding (size (index_code first))) (index_code first)
          (switch targets otherwise ∷ []))
          ∙ nops ((3 * size (index_code first) + 3) % 4) (index_code first ++ switch targets otherwise ∷ []) w
          ∙ ap (executed ((3 * size (index_code first) + 3) % 4)) (index (switch targets otherwise ∷ []) ∙ ap (executed 10) selects
          ∙ executed-left 10 1 target w)
          ∙ executed-left ((3 * size (index_code first) + 3) % 4) (10 + 1) target w

-- ---- the targets

get-told : (f : ℕ → ℕ) (n a i j : ℕ) → i < n → a + i ≡ j → slice_get (map f (range_with_len a n)) i ≡ Some (f j)
get-told f zero a i j less is = absurd (omega (arith, less))
get-told f (suc n) a zero j less is = let same : a ≡ j = omega (arith, is) in ap (λ k. Some (f k)) same
get-told f (suc n) a (suc i) j less is = get-told f n (a + 1) i j (omega (arith, less)) (omega (arith, is))

-- no branch of the opening goes past its end
nops-stay : (n : ℕ) (code : List Step) → stays_within (replicate n (Does Nop) ++ code) ≡ stays_within code
nops-stay zero code = refl
nops-stay (suc n) code = nops-stay n code

nops-weigh : (weight : Instruction → ℕ) → weight Nop ≡ 0 → (n : ℕ) (code : List Step)
    → weigh weight (replicate n (Does Nop) ++ code) ≡ weigh weight code
nops-weigh weight none zero code = refl
nops-weigh weight none (suc n) code = let rest = nops-weigh weight none n code in omega (arith, none, rest)

module _ (units : List Unit) (leads : ℕ → Bool) (span : SpanWords) where
  abbrev first : ℕ
  first = address span span.first

  abbrev targets : List ℕ
  targets = targets_of units leads span

  abbrev otherwise : ℕ
  otherwise = return_offset units leads span

  abbrev behind : List Step
  behind = map (laid_step (extent span) targets otherwise) (warm_before units leads span span.end ++ cold_before units leads span span.end)

  code-is : span_code units leads span ≡ entering units leads span ++ (behind ++ returns ∷ [])
  code-is = sym (append_assoc (opening first) (switch targets otherwise ∷ []) (behind ++ returns ∷ []))

  targets-count : length targets ≡ span.end - span.first
  targets-count = told-length (entry_at units leads span) span targets refl

  entering-size : size (entering units leads span) ≡ base span
  entering-size = let both = size-append (opening first) (switch targets otherwise ∷ []) in let count = targets-count in omega (arith, both, count)

  entering-stays : stays_within (entering units leads span) ≡ true
  entering-stays =
      ap stays_within (append_assoc (padding (size (index_code first))) (index_code first) (switch targets otherwise ∷ []))
      ∙ nops-stay ((3 * size (index_code first) + 3) % 4) (index_code first ++ switch targets otherwise ∷ [])

  pub entering-weighs : (weight : Instruction → ℕ) → weight Nop ≡ 0
      → weigh weight (entering units leads span) ≡ weigh weight (index_code first ++ switch targets otherwise ∷ [])
  entering-weighs weight none =
      ap (weigh weight) (append_assoc (padding (size (index_code first))) (index_code first) (switch targets otherwise ∷ []))
      ∙ nops-weigh weight none ((3 * size (index_code first) + 3) % 4) (index_code first ++ switch targets otherwise ∷ [])

  return-at : 0 + size (entering units leads span ++ behind) ≡ otherwise
  return-at =
      let warm = warm_before units leads span span.end in
      let cold = cold_before units leads span span.end in
      let all = size-append (entering units leads span) behind in
      let parts = size-laid (extent span) targets otherwise (warm ++ cold) in
      let both = size-append warm cold in
      let front = entering-size in
      omega (arith, all, parts, both, front)

  module _ (laws : PathLaws) (site : Site) (lies : LiesAt site.program site.method 0 (span_code units leads span)) where
    whole : LiesAt site.program site.method 0 (entering units leads span ++ (behind ++ returns ∷ []))
    whole = subst (LiesAt site.program site.method 0) code-is lies

    pub return-lies : LiesAt site.program site.method otherwise (returns ∷ [])
    return-lies =
        let split = subst (LiesAt site.program site.method 0) (sym (append_assoc (entering units leads span) behind (returns ∷ []))) whole in
        subst (λ a. LiesAt site.program site.method a (returns ∷ [])) return-at
        (lies-behind site.program site.method 0 (entering units leads span ++ behind) (returns ∷ []) split)

    entered : (n target : ℕ) (w : Workspace) → outcome site.program site.words (entering units leads span) w ≡ left n target w → n ≤ 14
        → IsEntered site units leads span w target
    entered n target w is few =
        let code = entering units leads span in
        let front = laws.parts site.program site.method 0 code (behind ++ returns ∷ []) entering-stays whole in
        let end : 0 + size code ≤ base span = (let total = entering-size in omega (arith, total)) in
        record {
          turns = n;
          in_time = few;
          path = path-wider site.program site.words site.method 0 (0 + size code) 0 (base span) n (λ weight. weigh weight code)
              (λ weight. weigh weight code) (stands site 0 w) (stands site target w) (omega arith) end (λ weight still. omega arith)
              (subst (PathWithin site.program site.words site.method 0 0 code site.others (stands site 0 w)) is
              (laws.paths site.program site.words site.method 0 0 code w site.others front.0));
        }

    few-turns : (bytes : ℕ) → (3 * bytes + 3) % 4 + (10 + 1) ≤ 14
    few-turns bytes = omega arith

    pub word-entered : (k : ℕ) (w : Workspace) → address span span.end ≤ 2 ^ 31 → span.first ≤ k → k < span.end
        → w.fields pc_field ≡ int (address span k) → IsEntered site units leads span w (entry_at units leads span k)
    word-entered k w low above below is =
        let count = targets-count in
        let j = k - span.first in
        let index : turned (distance first (address span k)) ≡ j = index-of-word first (address span k) j (omega (arith, above))
        (omega (arith, low, below)) in
        let number : table_target (signed_of (turned (distance first (address span k))) -ℤ pos 0) (length targets) ≡ suc j =
        ap (λ i. table_target (signed_of i -ℤ pos 0) (length targets)) index
        ∙ number-within j (length targets) (omega (arith, count, above, below)) (omega (arith, count, low)) in
        entered ((3 * size (index_code first) + 3) % 4 + (10 + 1)) (entry_at units leads span k) w
        (enters site.program site.words first (address span k) w is targets otherwise (suc j) (entry_at units leads span k) number
        (get-told (entry_at units leads span) (span.end - span.first) span.first j k (omega (arith, above, below)) (omega (arith, above))))
        (few-turns (size (index_code first)))

    pub other-entered : (a : ℕ) (w : Workspace) → span.first ≤ span.end → address span span.end ≤ 2 ^ 31 → IsWord a → has (extent span) a ≡ false
        → w.fields pc_field ≡ int a → IsEntered site units leads span w otherwise
    other-entered a w ordered low word outside is =
        let count = targets-count in
        let n = span.end - span.first in
        let end : address span span.end ≡ first + 4 * n = omega (arith, ordered) in
        let far : n ≤ turned (distance first a) = index-of-other first a n (omega (arith, end, low)) word
        (subst (λ e. has (record { first = first; end = e }) a ≡ false) end outside) in
        let number : table_target (signed_of (turned (distance first a)) -ℤ pos 0) (length targets) ≡ 0 =
        number-outside (turned (distance first a)) (length targets) (omega (arith, far, count)) (turned-word (distance first a) (omega arith)) in
        entered ((3 * size (index_code first) + 3) % 4 + (10 + 1)) otherwise w
        (enters site.program site.words first a w is targets otherwise 0 otherwise number refl) (few-turns (size (index_code first)))
