-- The memory that a translated program makes, and how it begins.
use Rattle.std.specs.Prelude.{◌≡◌, ◌≢◌, ℕ, ◌+◌, ◌<◌, ◌≤◌, ◌==◌, Bool, true, false, IsTrue, if◌then◌else◌, List, [], ◌∷◌, ◌++◌, length, Option, Some, None}
use Rattle.run_definition.specs.Answer.{Answer, answer_fits}
use Rattle.run_definition.specs.Turn.{asks}
use Rattle.run_definition.specs.Memory.{Memory}
use Rattle.run_simulation_laws.specs.Turns.{Pair}
use Rattle.run_simulation_laws.specs.Turns as runs
use Rattle.mips_definition.specs.State as guest
use Rattle.mips_definition.specs.Step as guest_step
use Rattle.elf_image_parts.specs.declared.page_run.PageRun.{PageRun}
use Rattle.jvm_definition.specs.declared.instruction.Instruction.{Instruction}
use Rattle.jvm_definition.specs.declared.kind.Kind.TheVariants as kinds
use Rattle.jvm_definition.specs.declared.value.Value.{Value}
use Rattle.jvm_definition.specs.declared.value.Value.TheVariants.{Int as int, Array as array}
use Rattle.jvm_definition.specs.Program.{Program}
use Rattle.jvm_definition.specs.Values.{Heap, no_arrays}
use Rattle.jvm_definition.specs.Effect.{Workspace}
use Rattle.jvm_definition.specs.Step.{JvmState, Frame, frame_placed, jvm_turn, jvm_start}
use Rattle.emit_steps.specs.declared.step.Step.{Step}
use Rattle.emit_steps.specs.Placing.{LiesAt}
use Rattle.emit_layout.specs.FieldNumbers.{pc_field, readable_field, writable_field}
use Rattle.emit_instructions.specs.Fields.{linked_field}
use Rattle.emit_loading.specs.declared.beginning.Beginning.{Beginning}
use Rattle.emit_loading.specs.Starting.{memory_code, run_code}
use Rattle.emit_paths_laws.specs.Classes.{reads, chars, switches, entries, executed}
use Rattle.emit_paths_laws.specs.Paths.{LooksAtNoTarget}
use Rattle.emit_simulation_laws.specs.Match.{HoldsMemory}
use Rattle.emit_simulation_laws.specs.Holding.{HoldsOn}
use Rattle.emit_loading_laws.specs.Leading.{Reaches, IsMethod}
use Rattle.emit_loading_laws.specs.Quiet.{Quietly, ComesTo}
use Rattle.emit_loading_laws.specs.Loaded.{Filler, MakersAreNone, MakesMemory, memory_turns, numbers_of, paged}

-- ---- memory

-- the places of the two tables
abbrev pub readable_place : ℕ
readable_place = 0

abbrev pub writable_place : ℕ
writable_place = 524290

-- the fields with the tables
abbrev pub with_tables : (ℕ → Value) → ℕ → Value
with_tables fields = λ g. if g == writable_field then array writable_place
    else if g == readable_field then array readable_place else fields g

-- what code stands over
abbrev pub over : (ℕ → Value) → List Value → (ℕ → Value) → Heap → Workspace
over locals operands fields heap = record {
  locals = locals;
  operands = operands;
  fields = fields;
  heap = heap;
}

-- The code that makes memory has come to what stands behind it, and the tables hold the memory.
pub record HasMade (program : Program) (words own m : ℕ) (is_span : ℕ → Bool) (most : ℕ)
    (rest : List Step) (locals : ℕ → Value) (operands : List Value) (fields : ℕ → Value)
    (others : List Frame) (memory : Memory) : Type 0 where
  pub heap : Heap
  pub comes : ComesTo program words own m is_span most rest
      (frame_placed own 0 (over locals operands fields no_arrays) others)
      (over locals operands (with_tables fields) heap) others
  pub held : HoldsMemory heap readable_place writable_place memory

-- The code that makes a program's memory makes the pages that its texts tell, with the words that
-- the texts of the classes of data spell, and enters no span, where none of the methods is a span's.
abbrev pub MemoryIsMade : Type 0
MemoryIsMade =
    (program : Program) (words own m pages : ℕ) (is_span : ℕ → Bool) (texts : List ℕ)
    (shares : List (List PageRun)) (fillers : List Filler) (readable writable : ℕ → Bool)
    (page_words : ℕ → List ℕ)
    → MakesMemory program words m pages texts shares fillers readable writable page_words
    → MakersAreNone is_span pages fillers
    → own ≢ m
    → (locals : ℕ → Value) (operands : List Value) (fields : ℕ → Value) (others : List Frame)
    → length others < 61
    → (rest : List Step)
    → LiesAt program own 0 (memory_code texts 0 pages (numbers_of fillers) ++ rest)
    → HasMade program words own m is_span (memory_turns shares fillers) rest locals operands fields
    others (paged readable writable page_words)

-- ---- the start

-- the guest's state at the start
abbrev pub start_of : Beginning → Memory → (ℕ → Option ℕ) → guest.State
start_of b memory code = guest.start b.order b.entry memory code b.heap_start b.heap_bytes

-- The method with which a program begins, where it has a meter with so many turns, the method that it then calls, and its fields.
pub record IsProgram (program : Program) (own m choose pages : ℕ) (meter : Option ℕ) (b : Beginning)
    (texts : List ℕ) (fillers : List Filler) : Type 0 where
  pub first : program.first ≡ own
  pub apart : own ≢ m
  pub run_lies : LiesAt program own 0 (run_code meter b texts 0 pages (numbers_of fillers) choose)
  pub choose_is : IsMethod program choose []
  pub ints : (f : ℕ) → f < 34 → program.field f ≡ Some kinds.Int
  pub linked : program.field linked_field ≡ Some kinds.Int

-- Turns count nothing: no word and no character is read, no switch is made, and no span is entered.
pub record CountNothing (choose : ℕ) (total : (Instruction → ℕ) → ℕ) : Type 0 where
  pub no_reads : total reads ≡ 0
  pub no_chars : total chars ≡ 0
  pub no_switches : total switches ≡ 0
  pub no_entries : (is_span : ℕ → Bool) → is_span choose ≡ false → total (entries is_span) ≡ 0

-- So many turns at most, which count nothing, lead into the method that chooses, where the fields and arrays hold a state of the guest.
pub record Begins (program : Program) (words own m choose most : ℕ) (x : JvmState) (t : guest.State)
    : Type 0 where
  pub total : (Instruction → ℕ) → ℕ
  pub counts : CountNothing choose total
  pub workspace : Workspace
  pub below : Frame
  pub reaches : Reaches program words m most total x (frame_placed choose 0 workspace (below ∷ []))
  pub held : HoldsOn 0 (λ r. true) workspace t
  pub pc_is : workspace.fields pc_field ≡ int t.pc
  pub no_operands : workspace.operands ≡ []
  pub waits_in : below.method ≡ own

-- The program comes to a call of the system, by which it asks what the guest asks at its start, and by each answer that fits it begins.
pub record Loads (program : Program) (words own m choose : ℕ) (is_span : ℕ → Bool) (most : ℕ)
    (s : guest.State) : Type 0 where
  pub asking : JvmState
  pub reaches : Quietly program words m is_span most (jvm_start program) asking
  -- the call itself is no entry either
  pub no_entry : (to : Option JvmState)
      → executed program (entries is_span) (record { from = asking; to = to }) ≡ 0
  pub next : Answer → JvmState
  pub asks_it : jvm_turn program words asking ≡ asks (guest_step.loader_question s) next
  pub begins : (a : Answer) → IsTrue (answer_fits a (guest_step.loader_question s))
      → Begins program words own m choose 8 (next a) (guest_step.after_loader s a)

-- A program without a meter that begins with its memory and makes it loads so.
abbrev pub ProgramsLoad : Type 0
ProgramsLoad =
    (program : Program) (words own m choose pages : ℕ) (is_span : ℕ → Bool) (b : Beginning)
    (texts : List ℕ) (shares : List (List PageRun)) (fillers : List Filler)
    (readable writable : ℕ → Bool) (page_words : ℕ → List ℕ) (code : ℕ → Option ℕ)
    → IsProgram program own m choose pages None b texts fillers
    → MakesMemory program words m pages texts shares fillers readable writable page_words
    → MakersAreNone is_span pages fillers
    → Loads program words own m choose is_span (memory_turns shares fillers + 7)
    (start_of b (paged readable writable page_words) code)

-- where it has begun
abbrev pub begun_at : (program : Program) (words own m choose most : ℕ) (x : JvmState)
    (t : guest.State) → Begins program words own m choose most x t → JvmState
begun_at program words own m choose most x t b = frame_placed choose 0 b.workspace (b.below ∷ [])

-- The classes have begun: they stand at the start of the method that chooses, where they hold a state of the guest.
pub record HasBegun (own choose : ℕ) (t : guest.State) (x : JvmState) : Type 0 where
  pub workspace : Workspace
  pub below : Frame
  pub stands : x ≡ frame_placed choose 0 workspace (below ∷ [])
  pub held : HoldsOn 0 (λ r. true) workspace t
  pub pc_is : workspace.fields pc_field ≡ int t.pc
  pub no_operands : workspace.operands ≡ []
  pub waits_in : below.method ≡ own

-- ---- loading as the laws of runs want it

-- A pair of machines, of which things of a kind are counted: the guest machine, and the classes of
-- a program, whose instructions weigh so much by each.
pub record IsCountedPair (I : Type 0) (program : Program) (words choose : ℕ)
    (p : Pair guest.State JvmState I) (weight : I → Instruction → ℕ) : Type 0 where
  pub guest_is : p.guest ≡ guest_step.turn
  pub classes_are : p.classes ≡ jvm_turn program words
  pub tally_is : (i : I) → (p.tally i).classes ≡ executed program (weight i)
  -- where a branch goes is not counted, and nothing is that loading counts
  pub looks : (i : I) → LooksAtNoTarget (weight i)
  pub nothing : (i : I) (total : (Instruction → ℕ) → ℕ) → CountNothing choose total
      → total (weight i) ≡ 0

-- Where a program loads, its pair comes to rest where it has begun.
abbrev pub ProgramsLoadInRuns : Type 0 → Type 0
ProgramsLoadInRuns I =
    (program : Program) (words own m choose : ℕ) (is_span : ℕ → Bool) (most limit : ℕ)
    (s : guest.State) (p : Pair guest.State JvmState I) (allowed : I → ℕ)
    (weight : I → Instruction → ℕ)
    → IsCountedPair I program words choose p weight
    → s.begun ≡ false
    → Loads program words own m choose is_span most s
    → most + 9 ≤ limit
    → ((i : I) (t : guest.State) (x : JvmState) → HasBegun own choose t x
    → (p.tally i).credit x ≤ allowed i)
    → runs.Loads p (HasBegun own choose) limit allowed s (jvm_start program)
