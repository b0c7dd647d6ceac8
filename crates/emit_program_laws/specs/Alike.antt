-- What the runs of a translated program have in common with its guest's.
use Rattle.std.specs.Prelude.{◌≡◌, ℕ, ◌+◌, ◌≤◌, Bool, true, List}
use Rattle.std.specs.List.{sum_by}
use Rattle.run_definition.specs.Answer.{Answer, next_answer}
use Rattle.run_definition.specs.declared.outcome.Outcome.TheVariants.{Going}
use Rattle.run_simulation_laws.specs.Runs.{ComesBy, allowance}
use Rattle.mips_definition.specs.State as guest
use Rattle.jvm_definition.specs.Step.{jvm_start, jvm_turn}
use Rattle.emit_paths_laws.specs.Classes.{reads, chars, switches, entries, executed}
use Rattle.emit_paths_laws.specs.Guest.{crossings, partial}
use Rattle.trampoline_laws.specs.Classes.{is_span, counted_spans}
use Rattle.emit_program_laws.specs.Marks.{AtPiece, MarksPieces}
use Rattle.emit_program_laws.specs.Translated.{TranslatedProgram, IsTranslatedProgram, LoadsWithin, guest_run, guest_trail, class_trail, whole_class_trail}

-- What the classes count in so many turns, over each list of answers: behind the first call, and of entries from their start on.
pub record CountsAsItsGuest (t : TranslatedProgram) : Type 0 where
  -- at most as many words are read as the guest makes accesses for which a word is read
  pub reads_few : (m : ℕ) (answers : List Answer)
      → sum_by (executed t.program reads) (class_trail t m answers)
      ≤ partial (guest_trail t m answers)
  -- no character is
  pub no_chars : (m : ℕ) (answers : List Answer)
      → sum_by (executed t.program chars) (class_trail t m answers) ≡ 0
  -- they switch, and enter spans in their whole run, at most once for each crossing of the guest, and once more
  pub switches_few : (m : ℕ) (answers : List Answer)
      → sum_by (executed t.program switches) (class_trail t m answers)
      ≤ crossings (counted_spans t.classes) (guest_trail t m answers) + 1
  pub entries_few : (m : ℕ) (answers : List Answer)
      → sum_by (executed t.program (entries (is_span t.classes))) (whole_class_trail t m answers)
      ≤ crossings (counted_spans t.classes) (guest_trail t m answers) + 1

-- Where the guest goes on at a marked state, after one turn at least, the classes come to the code
-- of the word at which it stands, with the same questions and within the allowance for a turn more.
abbrev pub ComesToMarks : TranslatedProgram → (extra : ℕ) → (guest.State → Bool) → Type 0
ComesToMarks t extra marked =
    (n : ℕ) (answers : List Answer)
    → let run = guest_run t n answers in
    1 ≤ n → run.outcome ≡ Going → marked run.last ≡ true
    → ComesBy (jvm_turn t.program t.words) next_answer (allowance 512 extra (n + 1))
    (AtPiece t.program t.words t.order t.classes t.choose t.code run.last)
    run.questions (jvm_start t.program) answers

-- It is so where states are marked between units, at words with which pieces begin.
abbrev pub TranslatedProgramsComeToMarks : Type 0
TranslatedProgramsComeToMarks =
    (t : TranslatedProgram) (extra : ℕ) (marked : guest.State → Bool)
    → IsTranslatedProgram t → LoadsWithin t extra → MarksPieces t.classes marked
    → ComesToMarks t extra marked
