-- The runs of a translated program, from its start on.
use Rattle.std.proofs.Common.{◌≡◌, ℕ, ◌+◌, ◌≤◌, Bool, true, false, List, arith}
use Rattle.std.proofs.lemmas.Bool.{false≢true}
use Rattle.std.specs.List.{sum_by}
use Rattle.run_definition.specs.Answer.{Answer, next_answer}
use Rattle.run_definition.specs.declared.outcome.Outcome.TheVariants.{Going}
use Rattle.run_simulation_laws.specs.Turns.{LawOfMarks, Translates}
use Rattle.run_simulation_laws.specs.Runs.{SameRuns, ComesBy, allowance}
use Rattle.run_simulation_laws.proofs.Answering.{next_fits}
use Rattle.run_simulation_laws.proofs.Loading as running
use Rattle.mips_definition.specs.State as guest
use Rattle.mips_definition.specs.Step as guest_step
use Rattle.jvm_definition.specs.Step.{JvmState, jvm_start, jvm_turn}
use Rattle.emit_paths_laws.specs.Classes.{reads, chars, switches, entries, executed}
use Rattle.emit_paths_laws.specs.Guest.{is_partial, partial, crosses, crossings}
use Rattle.trampoline_laws.specs.Classes.{is_span, counted_spans}
use Rattle.emit_loading_laws.specs.Loaded.{memory_turns}
use Rattle.emit_program_laws.specs.Counted.{Counted, weight, paid, pair}
use Rattle.emit_program_laws.specs.Counted.Counted.{Reads, Chars, Switches, Entries}
use Rattle.emit_program_laws.specs.Rests.{Rests}
use Rattle.emit_program_laws.specs.Marks.{MarksPieces, AtPiece}
use Rattle.emit_program_laws.specs.Turning.{MarksAreReached, TurnsAreFollowed}
use Rattle.emit_program_laws.specs.Translated.{TranslatedProgram, IsTranslatedProgram, LoadsWithin, guest_start, guest_run, guest_trail, class_trail, whole_class_trail}
use Rattle.emit_program_laws.proofs.TranslationRuns.Given.{LoadingLaws}
use Rattle.emit_program_laws.proofs.TranslationRuns.Counting.{allowed, sum-of-ones, sum-of-none}
use Rattle.emit_program_laws.proofs.TranslationRuns.Loading.{loads-to-rest, none-entered, none-at-call}

-- where no state is marked
abbrev unmarked : guest.State → Bool
unmarked s = false

none-marked : (t : TranslatedProgram) → MarksPieces t.classes unmarked
none-marked t = record {
  between = λ s e. absurd (false≢true e);
  in_class = λ s e. absurd (false≢true e);
  begin = λ s n c j k e there below first end at. absurd (false≢true e);
}

module _ (laws : LoadingLaws) (turns : TurnsAreFollowed) (t : TranslatedProgram) (is : IsTranslatedProgram t) where
  abbrev Resting : guest.State → JvmState → Type 0
  Resting = Rests t.program t.words t.order t.choose t.classes t.code

  translates : (marked : guest.State → Bool) → MarksPieces t.classes marked → (extra : ℕ) → LoadsWithin t extra → Translates (pair t.program t.words t.classes marked) Resting 512 extra allowed (guest_start t) (jvm_start t.program)
  translates marked marks extra within = record {
    turns = turns t.program t.words t.order t.choose t.missing t.classes t.code marked is.code_is marks;
    loads = loads-to-rest laws t is marked extra within;
  }

  pub runs-alike : (extra : ℕ) → LoadsWithin t extra → (answers : List Answer) → SameRuns guest_step.turn (jvm_turn t.program t.words) next_answer (allowance 512 extra) (guest_start t) (jvm_start t.program) answers
  runs-alike extra within answers =
      running.same_runs (pair t.program t.words t.classes unmarked) next_answer Resting 512 extra allowed (guest_start t) (jvm_start t.program) (translates unmarked (none-marked t) extra within) (λ k l q a. next_fits k l q a) answers

  -- ---- what is counted

  counted : (i : Counted) (m : ℕ) (answers : List Answer) → sum_by (executed t.program (weight t.classes i)) (class_trail t m answers) ≤ allowed i + sum_by (paid t.classes i) (guest_trail t m answers)
  counted i m answers =
      let extra = memory_turns t.shares t.fillers in
      let within : LoadsWithin t extra = omega arith in
      running.counts (pair t.program t.words t.classes unmarked) next_answer Resting 512 extra allowed (guest_start t) (jvm_start t.program) (translates unmarked (none-marked t) extra within) (λ k l q a. next_fits k l q a) i m answers

  pub counts-reads : (m : ℕ) (answers : List Answer) → sum_by (executed t.program reads) (class_trail t m answers) ≤ partial (guest_trail t m answers)
  counts-reads m answers =
      let all : sum_by (executed t.program reads) (class_trail t m answers) ≤ 0 + sum_by (paid t.classes Reads) (guest_trail t m answers) = counted Reads m answers in
      let ones : sum_by (paid t.classes Reads) (guest_trail t m answers) ≡ partial (guest_trail t m answers) = sum-of-ones is_partial (guest_trail t m answers) in
      omega (arith, all, ones)

  pub counts-chars : (m : ℕ) (answers : List Answer) → sum_by (executed t.program chars) (class_trail t m answers) ≡ 0
  counts-chars m answers =
      let all : sum_by (executed t.program chars) (class_trail t m answers) ≤ 0 + sum_by (paid t.classes Chars) (guest_trail t m answers) = counted Chars m answers in
      let none : sum_by (paid t.classes Chars) (guest_trail t m answers) ≡ 0 = sum-of-none (guest_trail t m answers) in
      omega (arith, all, none)

  pub counts-switches : (m : ℕ) (answers : List Answer) → sum_by (executed t.program switches) (class_trail t m answers) ≤ crossings (counted_spans t.classes) (guest_trail t m answers) + 1
  counts-switches m answers =
      let all : sum_by (executed t.program switches) (class_trail t m answers) ≤ 1 + sum_by (paid t.classes Switches) (guest_trail t m answers) = counted Switches m answers in
      let ones : sum_by (paid t.classes Switches) (guest_trail t m answers) ≡ crossings (counted_spans t.classes) (guest_trail t m answers) = sum-of-ones (crosses (counted_spans t.classes)) (guest_trail t m answers) in
      omega (arith, all, ones)

  pub counts-entries : (m : ℕ) (answers : List Answer) → sum_by (executed t.program (entries (is_span t.classes))) (whole_class_trail t m answers) ≤ crossings (counted_spans t.classes) (guest_trail t m answers) + 1
  unfolding translates
  counts-entries m answers =
      let extra = memory_turns t.shares t.fillers in
      let within : LoadsWithin t extra = omega arith in
      let whole : sum_by (executed t.program (entries (is_span t.classes))) (whole_class_trail t m answers) ≡ sum_by (executed t.program (entries (is_span t.classes))) (class_trail t m answers) =
      running.whole_counts (pair t.program t.words t.classes unmarked) next_answer Resting 512 extra allowed (guest_start t) (jvm_start t.program) (translates unmarked (none-marked t) extra within) (λ k l q a. next_fits k l q a)
      (executed t.program (entries (is_span t.classes))) (none-entered laws t is unmarked extra within) (none-at-call laws t is unmarked extra within) m answers in
      let all : sum_by (executed t.program (entries (is_span t.classes))) (class_trail t m answers) ≤ 1 + sum_by (paid t.classes Entries) (guest_trail t m answers) = counted Entries m answers in
      let ones : sum_by (paid t.classes Entries) (guest_trail t m answers) ≡ crossings (counted_spans t.classes) (guest_trail t m answers) = sum-of-ones (crosses (counted_spans t.classes)) (guest_trail t m answers) in
      omega (arith, whole, all, ones)

  -- ---- marks

  module _ (reached : MarksAreReached) (marked : guest.State → Bool) (marks : MarksPieces t.classes marked) where
    within-turn : LawOfMarks (pair t.program t.words t.classes marked) Resting (AtPiece t.program t.words t.order t.classes t.choose t.code) 512
    within-turn g j rests is_marked =
        let r = reached t.program t.words t.order t.choose t.missing t.classes t.code marked is.code_is marks g j rests is_marked in
        let few = r.2 in
        (r.0, r.1, omega (arith, few), r.3, r.4)

    pub comes-to-marks : (extra : ℕ) → LoadsWithin t extra → (n : ℕ) (answers : List Answer) → 1 ≤ n → (guest_run t n answers).outcome ≡ Going → marked (guest_run t n answers).last ≡ true → ComesBy (jvm_turn t.program t.words) next_answer (allowance 512 extra (n + 1)) (AtPiece t.program t.words t.order t.classes t.choose t.code (guest_run t n answers).last) (guest_run t n answers).questions (jvm_start t.program) answers
    comes-to-marks extra within n answers one goes is_marked =
        running.comes_to_marks (pair t.program t.words t.classes marked) next_answer Resting 512 extra allowed (guest_start t) (jvm_start t.program) (translates marked marks extra within) (λ k l q a. next_fits k l q a) (AtPiece t.program t.words t.order t.classes t.choose t.code) within-turn n answers one goes is_marked
