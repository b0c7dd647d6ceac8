-- Where code stands, and what the class machine does there.
use Rattle.std.specs.Prelude.{ℕ, ◌+◌, List, [], ◌∷◌}
use Rattle.run_definition.specs.declared.order.Order.{Order}
use Rattle.run_definition.specs.Turn.{Turn}
use Rattle.jvm_definition.specs.declared.instruction.Instruction.{Instruction}
use Rattle.jvm_definition.specs.declared.instruction.Instruction.TheVariants.{Call}
use Rattle.jvm_definition.specs.Program.{Program}
use Rattle.jvm_definition.specs.Effect.{Workspace}
use Rattle.jvm_definition.specs.Step.{JvmState, Frame, frame_placed, jvm_turn}
use Rattle.emit_steps.specs.declared.step.Step.{Step}
use Rattle.emit_steps.specs.declared.step.Step.TheVariants.{Does}
use Rattle.emit_steps.specs.Offsets.{CodeOffset}
use Rattle.emit_paths_laws.specs.Paths.{Path, step_weight, weigh}
use Rattle.mem_helpers.specs.Methods.{helper_code}
use Rattle.mem_helpers.specs.Loads.{read_fault_number}
use Rattle.mem_helpers.specs.Stores.{write_fault_number}

-- a method of a program, which runs over a region of so many words, with other frames below its own
pub record Site : Type 0 where
  pub program : Program
  pub words : ℕ
  pub method : ℕ
  pub others : List Frame

-- the machine's turn, and the state that stands in the site's method at an offset
abbrev pub turn_in : Site → JvmState → Turn JvmState
turn_in site = jvm_turn site.program site.words

abbrev pub stands : Site → CodeOffset → Workspace → JvmState
stands site at w = frame_placed site.method at w site.others

-- a path whose places in the site's method lie between two offsets
abbrev pub PathIn : Site → CodeOffset → CodeOffset → ℕ → ((Instruction → ℕ) → ℕ) → JvmState → JvmState
    → Type 0
PathIn site low high turns total x y =
    Path site.program site.words site.method low high turns total x y

-- ---- what code weighs together with the methods that it calls

-- a helper method, and the methods that it may call to end the run
abbrev pub helper_weight : Order → (Instruction → ℕ) → ℕ → ℕ
helper_weight order weight h =
    weigh weight (helper_code order h) + weigh weight (helper_code order read_fault_number)
    + weigh weight (helper_code order write_fault_number)

abbrev pub called_weight : Order → (Instruction → ℕ) → Step → ℕ
called_weight order weight (Does (Call h)) = helper_weight order weight h
called_weight order weight _ = 0

-- each step with what it calls
abbrev pub whole_weight : Order → List Step → (Instruction → ℕ) → ℕ
whole_weight order [] weight = 0
whole_weight order (s ∷ code) weight =
    step_weight weight s + called_weight order weight s + whole_weight order code weight
