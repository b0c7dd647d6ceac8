-- What is counted of a run of the class machine.
use Rattle.std.specs.Prelude.{◌≡◌, ℕ, Bool, if◌then◌else◌, ◌==◌, List, [], ◌∷◌, Option, Some, None}
use Rattle.run_definition.specs.Run.{Run}
use Rattle.run_simulation_laws.specs.Trail.{Step}
use Rattle.jvm_definition.specs.declared.array_name.ArrayName.{ArrayName}
use Rattle.jvm_definition.specs.declared.array_name.ArrayName.TheVariants.{Iaload, Aaload, Iastore, Aastore}
use Rattle.jvm_definition.specs.declared.linked_line.LinkedLine.{LinkedLine}
use Rattle.jvm_definition.specs.declared.instruction.Instruction.{Instruction}
use Rattle.jvm_definition.specs.declared.instruction.Instruction.TheVariants.{Array, TableSwitch, LookupSwitch, CharAt, Call, Get, Put}
use Rattle.jvm_definition.specs.Program.{Program, linked_line_at}
use Rattle.jvm_definition.specs.Step.{JvmState, Frame, Loaded}
use Rattle.emit_steps.specs.Offsets.{CodeOffset}

-- ---- what an instruction counts

abbrev pub array_reads : ArrayName → ℕ
array_reads Iaload = 1
array_reads Aaload = 0
array_reads Iastore = 0
array_reads Aastore = 0

-- a read of a word of an array
abbrev pub reads : Instruction → ℕ
reads (Array name) = array_reads name
reads _ = 0

-- a read of a character
abbrev pub chars : Instruction → ℕ
chars CharAt = 1
chars _ = 0

abbrev pub switches : Instruction → ℕ
switches (TableSwitch s) = 1
switches (LookupSwitch s) = 1
switches _ = 0

-- a call of one of these methods, which are those of the spans
abbrev pub entries : (ℕ → Bool) → Instruction → ℕ
entries is_span (Call m) = if is_span m then 1 else 0
entries is_span _ = 0

-- a read of a field
abbrev pub gets : ℕ → Instruction → ℕ
gets field (Get f kind) = if f == field then 1 else 0
gets field _ = 0

-- a write of a field
abbrev pub puts : ℕ → Instruction → ℕ
puts field (Put f kind) = if f == field then 1 else 0
puts field _ = 0

-- ---- what a step counts

-- the line that the first frame executes
abbrev pub line_of : Program → List Frame → Option LinkedLine
line_of program [] = None
line_of program (f ∷ others) = linked_line_at program f.method f.at

abbrev pub weighed : (Instruction → ℕ) → Option LinkedLine → ℕ
weighed weight None = 0
weighed weight (Some line) = weight line.instruction

abbrev pub executed : Program → (Instruction → ℕ) → Step JvmState → ℕ
executed program weight step = weighed weight (line_of program step.from.frames)

-- the same of the steps of a loaded program
abbrev pub executed_loaded : (Instruction → ℕ) → Step Loaded → ℕ
executed_loaded weight step = weighed weight (line_of step.from.program step.from.state.frames)

-- ---- where a step is made

abbrev pub place_of : ℕ → List Frame → Option CodeOffset
place_of m [] = None
place_of m (f ∷ others) = if f.method == m then Some f.at else None

-- the offset in a method, where that is the one that runs
abbrev pub place_in : ℕ → JvmState → Option CodeOffset
place_in m s = place_of m s.frames

-- ---- a loaded program

abbrev pub with_state : Program → ℕ → JvmState → Loaded
with_state program words s = record { program = program; words = words; state = s }

-- a run of a loaded program is the run of its state
pub record IsRunLoaded {K : Type 0} (program : Program) (words : ℕ) (run : Run JvmState K)
    (loaded_run : Run Loaded K) : Type 0 where
  pub questions : loaded_run.questions ≡ run.questions
  pub outcome : loaded_run.outcome ≡ run.outcome
  pub last : loaded_run.last ≡ with_state program words run.last
  pub system : loaded_run.system ≡ run.system
