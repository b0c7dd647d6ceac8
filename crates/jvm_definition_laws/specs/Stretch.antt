-- Stretches of code: instructions that are run by themselves, at offsets from their own start, and that stand in a method.
use Rattle.std.specs.Prelude.{◌≡◌, ℕ, zero, suc, ◌+◌, List, [], ◌∷◌, map, slice_get, Option, Some, None, option_and_then}
use Rattle.run_definition.specs.Turn.{Turn, moves, ends, leaves, asks}
use Rattle.jvm_definition.specs.declared.pair.Pair.{Pair}
use Rattle.jvm_definition.specs.declared.linked_line.LinkedLine.{LinkedLine}
use Rattle.jvm_definition.specs.declared.instruction.Instruction.{Instruction}
use Rattle.jvm_definition.specs.declared.instruction.Instruction.TheVariants.{Branch, TableSwitch, LookupSwitch}
use Rattle.jvm_definition.specs.Program.{Program, line_in, linked_line_at, instruction_targets}
use Rattle.jvm_definition.specs.declared.value.Value.{Value}
use Rattle.jvm_definition.specs.Effect.{Workspace, InstructionEffect, goes_on, jumps, enters, gives, asks_host, faults, traps, wrong, instruction_effect}
use Rattle.jvm_definition.specs.Step.{entered_frame}

-- ---- turns that only move

-- the state after so many turns, where each of them only moves
abbrev pub advanced : {S : Type 0} → (S → Turn S) → ℕ → S → Option S
advanced turn zero s = Some s
advanced turn (suc n) s = elim (turn s) [
  | moves t ↦ advanced turn n t
  | ends e ↦ None
  | leaves q e ↦ None
  | asks q next ↦ None
]

-- ---- a stretch by itself

-- an offset and a workspace
pub record Point : Type 0 where
  pub at : ℕ
  pub workspace : Workspace

abbrev pub arrived : Workspace → Option ℕ → Option Point
arrived w None = None
arrived w (Some at) = Some (record { at = at; workspace = w })

-- where an effect leads within the code of a method
abbrev pub led : InstructionEffect → LinkedLine → Option Point
led (goes_on w) line = Some (record { at = line.next; workspace = w })
led (jumps k w) line = arrived w (slice_get (instruction_targets line.instruction) k)
led (enters m given w) line = None
led (gives v w) line = None
led (asks_host call readable writable w) line = None
led (faults f) line = None
led (traps k) line = None
led wrong line = None

abbrev pub passed : Program → ℕ → Option LinkedLine → Workspace → Option Point
passed program words None w = None
passed program words (Some line) w = led (instruction_effect program words line.instruction w) line

-- so many instructions of the lines, from an offset on
abbrev pub stretch : Program → ℕ → List LinkedLine → ℕ → ℕ → Workspace → Option Point
stretch program words lines zero at w = Some (record { at = at; workspace = w })
stretch program words lines (suc n) at w =
    option_and_then (λ (p : Point). stretch program words lines n p.at p.workspace)
    (passed program words (line_in lines at) w)

-- ---- lines that stand in a method

-- the instruction with its targets moved on by an offset
abbrev pub moved_instruction : ℕ → Instruction → Instruction
moved_instruction by (Branch name target) = Branch name (by + target)
moved_instruction by (TableSwitch s) =
    TableSwitch (record {
      default = by + s.default;
      low = s.low;
      targets = map (λ t. by + t) s.targets;
    })
moved_instruction by (LookupSwitch s) =
    LookupSwitch (record {
      default = by + s.default;
      pairs = map (λ (p : Pair). record { key = p.key; target = by + p.target }) s.pairs;
    })
moved_instruction by instruction = instruction

abbrev pub moved_line : ℕ → LinkedLine → LinkedLine
moved_line by l = record {
  at = by + l.at;
  next = by + l.next;
  instruction = moved_instruction by l.instruction;
}

-- a method has the lines from an offset on
abbrev pub StandsAt : Program → ℕ → ℕ → List LinkedLine → Type 0
StandsAt program m by [] = Unit {0}
StandsAt program m by (l ∷ lines) = (linked_line_at program m (by + l.at) ≡ Some (moved_line by l))
    × StandsAt program m by lines

-- ---- calls

-- what the body of a called method begins with
abbrev pub body_workspace : List Value → Workspace → Workspace
body_workspace given w = record {
  locals = (entered_frame 0 given).locals;
  operands = [];
  fields = w.fields;
  heap = w.heap;
}

-- what the caller goes on with
abbrev pub caller_workspace : Option Value → Workspace → Workspace → Workspace
caller_workspace None w back = record {
  locals = w.locals;
  operands = w.operands;
  fields = back.fields;
  heap = back.heap;
}
caller_workspace (Some v) w back = record {
  locals = w.locals;
  operands = v ∷ w.operands;
  fields = back.fields;
  heap = back.heap;
}

-- A line calls a method with arguments; the method's lines lead from their start to a return after so many instructions.
pub record CallsAndReturns (program : Program) (words m : ℕ) (line : LinkedLine) (w : Workspace)
    (n : ℕ) (result : Option Value) (caller back : Workspace) : Type 0 where
  pub stands : linked_line_at program m line.at ≡ Some line
  pub callee : ℕ
  pub given : List Value
  pub calls : instruction_effect program words line.instruction w ≡ enters callee given caller
  pub body : List LinkedLine
  pub body_stands : StandsAt program callee 0 body
  pub end_at : Point
  pub runs : stretch program words body n 0 (body_workspace given caller) ≡ Some end_at
  pub last : LinkedLine
  pub last_is : line_in body end_at.at ≡ Some last
  pub returns : instruction_effect program words last.instruction end_at.workspace ≡ gives result back
