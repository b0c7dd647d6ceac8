-- How a program with a meter begins.
use Rattle.std.specs.Prelude.{◌≡◌, ℕ, ◌+◌, ◌-◌, ◌^◌, ◌<◌, ◌≤◌, Bool, false, IsTrue, List, Option, Some}
use Rattle.run_definition.specs.Answer.{Answer, answer_fits}
use Rattle.run_definition.specs.Turn.{End, ends, «fault»}
use Rattle.run_simulation_laws.specs.Pairs.{FollowsByMeter}
use Rattle.mips_definition.specs.State as guest
use Rattle.mips_definition.specs.Step as guest_step
use Rattle.elf_image_parts.specs.declared.page_run.PageRun.{PageRun}
use Rattle.delay_slots.specs.Places.{Address}
use Rattle.jvm_definition.specs.Program.{Program}
use Rattle.jvm_definition.specs.Step.{JvmState, jvm_turn, jvm_start}
use Rattle.emit_loading.specs.declared.beginning.Beginning.{Beginning}
use Rattle.meter_laws.specs.Meters.{HasLeft, spent_fault}
use Rattle.emit_loading_laws.specs.Quiet.{Quietly}
use Rattle.emit_loading_laws.specs.Loaded.{Filler, MakersAreNone, MakesMemory, memory_turns, paged}
use Rattle.emit_loading_laws.specs.Made.{HasBegun, IsProgram, Loads, start_of}

-- ---- where turns are put on it

-- The program loads, and where it has begun so many turns are left.
pub record LoadsByMeter (program : Program) (words own m choose : ℕ) (is_span : ℕ → Bool)
    (most left : ℕ) (s : guest.State) : Type 0 where
  pub loads : Loads program words own m choose is_span most s
  pub left_then : (a : Answer) (fit : IsTrue (answer_fits a (guest_step.loader_question s)))
      → HasLeft left (loads.begins a fit).workspace

-- It loads so where it begins with a turn at least: that is the turn of the call.
abbrev pub MeteredProgramsLoad : Type 0
MeteredProgramsLoad =
    (program : Program) (words own m choose pages : ℕ) (is_span : ℕ → Bool) (b : Beginning)
    (texts : List ℕ) (shares : List (List PageRun)) (fillers : List Filler)
    (readable writable : ℕ → Bool) (page_words : ℕ → List ℕ) (code : ℕ → Option ℕ) (turns : ℕ)
    → IsProgram program own m choose pages (Some turns) b texts fillers
    → 1 ≤ turns
    → turns < 2 ^ 31
    → MakesMemory program words m pages texts shares fillers readable writable page_words
    → MakersAreNone is_span pages fillers
    → LoadsByMeter program words own m choose is_span (memory_turns shares fillers + 16) (turns - 1)
    (start_of b (paged readable writable page_words) code)

-- The classes have begun, and so many turns are left.
pub record HasBegunByMeter (own choose left : ℕ) (t : guest.State) (x : JvmState) : Type 0 where
  pub begun : HasBegun own choose t x
  pub left_is : HasLeft left begun.workspace

-- So the classes follow the guest with that meter from the start on, within a limit, to where they have begun.
abbrev pub MeteredLoadingFollows : Type 0
MeteredLoadingFollows =
    (program : Program) (words own m choose : ℕ) (is_span : ℕ → Bool) (most left limit : ℕ)
    (s : guest.State) (spent : guest.State → End)
    → s.begun ≡ false
    → LoadsByMeter program words own m choose is_span most left s
    → most + 9 ≤ limit
    → FollowsByMeter guest_step.turn (jvm_turn program words) spent (HasBegunByMeter own choose)
    (λ n. limit) (left + 1) s (jvm_start program)

-- ---- where none is

-- The program ends at once in the fault of a spent meter: before that it asks nothing.
pub record EndsAtOnce (program : Program) (words m : ℕ) (is_span : ℕ → Bool) (most : ℕ)
    (at : Address) : Type 0 where
  pub last : JvmState
  pub reaches : Quietly program words m is_span most (jvm_start program) last
  pub ends_so : jvm_turn program words last ≡ ends («fault» (spent_fault at))

-- So the classes follow the guest with an empty meter, which ends as a spent one does.
abbrev pub SpentLoadingFollows : Type 0
SpentLoadingFollows =
    (program : Program) (words own m choose : ℕ) (is_span : ℕ → Bool) (most limit : ℕ) (at : Address)
    (s : guest.State) (spent : guest.State → End)
    → spent s ≡ «fault» (spent_fault at)
    → EndsAtOnce program words m is_span most at
    → most + 1 ≤ limit
    → FollowsByMeter guest_step.turn (jvm_turn program words) spent (HasBegunByMeter own choose)
    (λ n. limit) 0 s (jvm_start program)

-- It ends so, at the entry, where it begins with no turn.
abbrev pub SpentProgramsEnd : Type 0
SpentProgramsEnd =
    (program : Program) (words own m choose pages : ℕ) (is_span : ℕ → Bool) (b : Beginning)
    (texts : List ℕ) (shares : List (List PageRun)) (fillers : List Filler)
    (readable writable : ℕ → Bool) (page_words : ℕ → List ℕ)
    → IsProgram program own m choose pages (Some 0) b texts fillers
    → MakesMemory program words m pages texts shares fillers readable writable page_words
    → MakersAreNone is_span pages fillers
    → EndsAtOnce program words m is_span (memory_turns shares fillers + 8) b.entry
