-- A guest's program and the classes that are its translation.
use Rattle.std.specs.Prelude.{◌≡◌, ℕ, ◌+◌, ◌*◌, ◌≤◌, Bool, false, List, Option, None}
use Rattle.run_definition.specs.Words.{IsWord}
use Rattle.run_definition.specs.declared.order.Order.{Order}
use Rattle.run_definition.specs.Answer.{Answer, next_answer}
use Rattle.run_definition.specs.Run.{Run, run_of}
use Rattle.run_simulation_laws.specs.Trail.{Step, trail_of, after_call}
use Rattle.mips_definition.specs.State as guest
use Rattle.mips_definition.specs.Step as guest_step
use Rattle.elf_image_parts.specs.declared.page_run.PageRun.{PageRun}
use Rattle.jvm_definition.specs.Program.{Program}
use Rattle.jvm_definition.specs.Step.{JvmState, jvm_start, jvm_turn}
use Rattle.emit_loading.specs.declared.beginning.Beginning.{Beginning}
use Rattle.trampoline_laws.specs.Classes.{CodeClass, is_span}
use Rattle.trampoline_laws.specs.Programs.{IsTranslated}
use Rattle.emit_loading_laws.specs.Loaded.{Filler, MakersAreNone, MakesMemory, memory_turns, paged}
use Rattle.emit_loading_laws.specs.Made.{IsProgram, start_of}

-- A guest's program, and a program of classes that is to run as it does.
pub record TranslatedProgram : Type 0 where
  -- the program of classes, and how many words its arrays have room for
  pub program : Program
  pub words : ℕ
  -- how the guest begins, with its order of bytes, its code and the pages of its memory
  pub beginning : Beginning
  pub order : Order
  pub code : ℕ → Option ℕ
  pub readable : ℕ → Bool
  pub writable : ℕ → Bool
  pub page_words : ℕ → List ℕ
  -- the methods with which the program begins, which chooses among classes of code, which stands for addresses outside all code, and which
  -- makes tables of pages; and one that takes no part in making the memory
  pub own : ℕ
  pub choose : ℕ
  pub missing : ℕ
  pub pages : ℕ
  pub apart : ℕ
  -- the classes of code, the texts that tell pages by their runs, and the classes that fill pages
  pub classes : List CodeClass
  pub texts : List ℕ
  pub shares : List (List PageRun)
  pub fillers : List Filler

-- The program is the translation of the guest's code, makes its memory, and begins as it does. It has no meter.
pub record IsTranslatedProgram (t : TranslatedProgram) : Type 0 where
  pub code_is : IsTranslated false t.program t.order t.choose t.missing t.classes t.code
  pub begins : IsProgram t.program t.own t.apart t.choose t.pages None t.beginning t.texts t.fillers
  pub memory_is : MakesMemory t.program t.words t.apart t.pages t.texts t.shares t.fillers
      t.readable t.writable t.page_words
  -- no method that makes memory is a span's
  pub makers_are_none : MakersAreNone (is_span t.classes) t.pages t.fillers
  pub order_is : t.beginning.order ≡ t.order
  pub entry_word : IsWord t.beginning.entry

-- ---- its runs

-- the guest's state at its start
abbrev pub guest_start : TranslatedProgram → guest.State
guest_start t = start_of t.beginning (paged t.readable t.writable t.page_words) t.code

-- Making the memory and beginning take no more turns than two turns of the guest allow, and so many beside them.
abbrev pub LoadsWithin : TranslatedProgram → ℕ → Type 0
LoadsWithin t extra = memory_turns t.shares t.fillers + 16 ≤ extra + 2 * 512

-- the guest's run of so many turns over these answers
abbrev pub guest_run : TranslatedProgram → ℕ → List Answer → Run guest.State (List Answer)
guest_run t n answers = run_of guest_step.turn next_answer n (guest_start t) answers

-- in a run of so many turns, those of the guest behind its first call
abbrev pub guest_trail : TranslatedProgram → ℕ → List Answer → List (Step guest.State)
guest_trail t m answers =
    after_call guest_step.turn (trail_of guest_step.turn next_answer m (guest_start t) answers)

-- those of the classes, from their start on, and behind their first call
abbrev pub whole_class_trail : TranslatedProgram → ℕ → List Answer → List (Step JvmState)
whole_class_trail t m answers =
    trail_of (jvm_turn t.program t.words) next_answer m (jvm_start t.program) answers

abbrev pub class_trail : TranslatedProgram → ℕ → List Answer → List (Step JvmState)
class_trail t m answers = after_call (jvm_turn t.program t.words) (whole_class_trail t m answers)
