-- The targets of typed code are its own lines.
use Rattle.std.proofs.Common.{◌≡◌, ℕ, zero, suc, ◌+◌, ◌<◌, ◌==◌, nat_lt, Bool, true, false, if◌then◌else◌, List, [], ◌∷◌, ◌++◌, All, length, Option, Some, None, refl, ap, arith}
use Rattle.std.specs.Prelude.{◌&&◌, is_some, slice_get}
use Rattle.std.specs.List.{list_all}
use Rattle.std.proofs.lemmas.Bool.{and_from, and_parts, eqb-true, eq-eqb, false≢true, ltb-true}
use Rattle.std.proofs.lemmas.List.Elements.{All-head, All-tail}
use Rattle.jvm_definition.specs.declared.linked_line.LinkedLine.{LinkedLine}
use Rattle.jvm_definition.specs.Program.{line_in, instruction_targets}
use Rattle.jvm_definition.specs.Typing.{TypeFrame}
use Rattle.emit_steps.specs.declared.step.Step.{Step}
use Rattle.emit_steps.specs.declared.step.Step.TheVariants.{Does, Skips, Leaves, Selects}
use Rattle.emit_steps.specs.Widths.{width, bytes_before}
use Rattle.emit_steps.specs.Placing.{laid, placed_line, placed_instruction}
use Rattle.emit_assembly.specs.Assembling.{targets_are_lines}
use Rattle.emit_types_laws.specs.Judging.{Rules, Meets, Fits, Types}
use Rattle.emit_types_laws.specs.Bodies.{BodyTypes, frame_in}

-- ---- lines

either-line : (b : Bool) (l : LinkedLine) (found : Option LinkedLine) → is_some found ≡ true → is_some (if b then Some l else found) ≡ true
either-line true l found is = refl
either-line false l found is = is

-- each step has a line at its offset
lined : (code : List Step) (at x i : ℕ) → i < length code → x ≡ at + bytes_before code i → is_some (line_in (laid at code) x) ≡ true
lined [] at x i below is = absurd (omega (arith, below))
lined (s ∷ code) at x zero below is =
    ap (λ b. is_some (if b then Some (placed_line at s code) else line_in (laid (at + width s) code) x)) (eq-eqb at x (omega (arith, is)))
lined (s ∷ code) at x (suc i) below is =
    let sum : x ≡ at + (width s + bytes_before code i) = is in
    either-line (at == x) (placed_line at s code) (line_in (laid (at + width s) code) x)
    (lined code (at + width s) x i (omega (arith, below)) (omega (arith, sum)))

-- a frame that is met at an offset is that of a step
framed : (code : List Step) (frames : List TypeFrame) (at x : ℕ) (f : TypeFrame) → Meets f (frame_in at code frames x)
    → is_some (line_in (laid at code) x) ≡ true
framed [] frames at x f m = absurd m
framed (s ∷ code) [] at x f m = absurd m
framed (s ∷ code) (g ∷ frames) at x f m = by_test (at == x) (framed code frames (at + width s) x f) m
  where
    by_test : (b : Bool) → (Meets f (frame_in (at + width s) code frames x) → is_some (line_in (laid (at + width s) code) x) ≡ true)
        → Meets f (if b then Some g else frame_in (at + width s) code frames x)
        → is_some (if b then Some (placed_line at s code) else line_in (laid (at + width s) code) x) ≡ true
    by_test true rest n = refl
    by_test false rest n = rest n

-- ---- places of frames

got : (frames : List TypeFrame) (f : TypeFrame) (k : ℕ) → Meets f (slice_get frames k) → k < length frames
got [] f k m = absurd m
got (g ∷ frames) f zero m = omega arith
got (g ∷ frames) f (suc k) m = let rest = got frames f k m in omega (arith, rest)

-- a frame that is met stands at a step or behind all of them
pub within : (rules : Rules) (code : List Step) (frames behind : List TypeFrame) (f : TypeFrame) (k : ℕ) → Types rules code frames behind
    → Meets f (slice_get (frames ++ behind) k) → k < length code + length behind
within rules [] [] behind f k t m = omega (arith, got behind f k m)
within rules [] (g ∷ frames) behind f k t m = absurd t
within rules (s ∷ code) [] behind f k t m = absurd t
within rules (s ∷ code) (g ∷ frames) behind f zero t m = omega arith
within rules (s ∷ code) (g ∷ frames) behind f (suc k) t m =
    let rest = within rules code frames behind f k t.2 m in
    omega (arith, rest)

-- ---- targets

module _ (lines : List LinkedLine) (rules : Rules) (owed : (x : ℕ) (f : TypeFrame) → Meets f (rules.owes x) → is_some (line_in lines x) ≡ true) where
  abbrev is_line : ℕ → Bool
  is_line x = is_some (line_in lines x)

  -- the steps of code have lines
  abbrev HaveLines : ℕ → List Step → Type 0
  HaveLines at code = (i x : ℕ) → i < length code → x ≡ at + bytes_before code i → is_line x ≡ true

  all-owed : (f : TypeFrame) (xs : List ℕ) → All (λ x. Meets f (rules.owes x)) xs → list_all is_line xs ≡ true
  all-owed f [] all = refl
  all-owed f (x ∷ xs) all =
      and_from (is_line x) (list_all is_line xs) (owed x f (All-head (λ x. Meets f (rules.owes x)) x xs all))
      (all-owed f xs (All-tail (λ x. Meets f (rules.owes x)) x xs all))

  none : (xs : List ℕ) → length xs ≡ 0 → list_all is_line xs ≡ true
  none [] is = refl
  none (x ∷ xs) is = absurd (omega (arith, is))

  step-targets : (at : ℕ) (s : Step) (code : List Step) (f : TypeFrame) (frames : List TypeFrame) → Fits rules s f (frames ++ [])
      → Types rules code frames [] → HaveLines (at + width s) code → list_all is_line (instruction_targets (placed_instruction at s code)) ≡ true
  step-targets at (Does i) code f frames fit t there = none (instruction_targets i) (eqb-true (length (instruction_targets i)) 0 fit.straight)
  step-targets at (Skips name k) code f frames fit t there =
      let place = within rules code frames [] fit.after k t fit.skipped in
      and_from (is_line (at + 3 + bytes_before code k)) true (there k (at + 3 + bytes_before code k) (omega (arith, place)) refl) refl
  step-targets at (Leaves target) code f frames fit t there = all-owed fit.after (target ∷ []) fit.owed
  step-targets at (Selects s) code f frames fit t there = all-owed fit.after (s.default ∷ s.targets) fit.owed

  targets : (code : List Step) (frames : List TypeFrame) (at : ℕ) → Types rules code frames [] → HaveLines at code
      → list_all (λ l. list_all (λ target. is_some (line_in lines target)) (instruction_targets l.instruction)) (laid at code) ≡ true
  targets [] frames at t there = refl
  targets (s ∷ code) [] at t there = absurd t
  targets (s ∷ code) (f ∷ frames) at t there =
      let later : HaveLines (at + width s) code = λ i x below is. there (suc i) x (omega (arith, below)) (omega (arith, is)) in
      and_from (list_all is_line (instruction_targets (placed_instruction at s code))) _ (step-targets at s code f frames t.1 t.2 later)
      (targets code frames (at + width s) t.2 later)

pub targets-are-lines : (rules : Rules) (code : List Step) (entry : TypeFrame) → BodyTypes rules code entry
    → targets_are_lines (laid 0 code) ≡ true
targets-are-lines rules code entry t =
    targets (laid 0 code) rules owed code t.body.frames 0 t.body.types (λ i x below is. lined code 0 x i below is)
  where
    owed : (x : ℕ) (f : TypeFrame) → Meets f (rules.owes x) → is_some (line_in (laid 0 code) x) ≡ true
    owed x f m = by_case (rules.owes x) refl m
      where
        by_case : (o : Option TypeFrame) → rules.owes x ≡ o → Meets f o → is_some (line_in (laid 0 code) x) ≡ true
        by_case None is n = absurd n
        by_case (Some g) is n = framed code t.body.frames 0 x g (t.owed x g is)

-- ---- code that goes straight on, but for steps that are passed over

-- each step goes to no offset, or over no more steps than stand before another one
abbrev pub passes : List Step → Bool
passes [] = true
passes (Does instruction ∷ code) = (length (instruction_targets instruction) == 0) && passes code
passes (Skips name k ∷ code) = nat_lt k (length code) && passes code
passes (Leaves target ∷ code) = false
passes (Selects s ∷ code) = false

no-target : (lines : List LinkedLine) (xs : List ℕ) → length xs ≡ 0 → list_all (λ x. is_some (line_in lines x)) xs ≡ true
no-target lines [] is = refl
no-target lines (x ∷ xs) is = absurd (omega (arith, is))

passed : (lines : List LinkedLine) (code : List Step) (at : ℕ) → passes code ≡ true
    → ((i x : ℕ) → i < length code → x ≡ at + bytes_before code i → is_some (line_in lines x) ≡ true)
    → list_all (λ l. list_all (λ target. is_some (line_in lines target)) (instruction_targets l.instruction)) (laid at code) ≡ true
passed lines [] at is there = refl
passed lines (Does i ∷ code) at is there =
    let parts = and_parts (length (instruction_targets i) == 0) (passes code) is in
    and_from (list_all (λ x. is_some (line_in lines x)) (instruction_targets i)) _ (no-target lines (instruction_targets i) (eqb-true (length (instruction_targets i)) 0 parts.0))
    (passed lines code (at + width (Does i)) parts.1 (λ n x below is. there (suc n) x (omega (arith, below)) (omega (arith, is))))
passed lines (Skips name k ∷ code) at is there =
    let parts = and_parts (nat_lt k (length code)) (passes code) is in
    let below = ltb-true k (length code) parts.0 in
    let target = at + 3 + bytes_before code k in
    and_from (is_some (line_in lines target) && true) _
    (and_from (is_some (line_in lines target)) true (there (suc k) target (omega (arith, below)) (omega arith)) refl)
    (passed lines code (at + 3) parts.1 (λ n x less is. there (suc n) x (omega (arith, less)) (omega (arith, is))))
passed lines (Leaves target ∷ code) at is there = absurd (false≢true is)
passed lines (Selects s ∷ code) at is there = absurd (false≢true is)

pub passes-are-lines : (code : List Step) → passes code ≡ true → targets_are_lines (laid 0 code) ≡ true
passes-are-lines code is = passed (laid 0 code) code 0 is (λ i x below at. lined code 0 x i below at)
