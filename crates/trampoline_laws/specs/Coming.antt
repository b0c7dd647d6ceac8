-- What the code of choosers comes to.
use Rattle.std.specs.Prelude.{◌≡◌, ℕ, suc, ◌+◌, ◌*◌, ◌%◌, ◌^◌, ◌==◌, ◌<◌, ◌≤◌, ◌⊎◌, if◌then◌else◌, List, [], ◌∷◌, length, slice_get, Some, None}
use Rattle.run_definition.specs.Words.{IsWord}
use Rattle.delay_slots.specs.Places.{Address}
use Rattle.run_definition.specs.declared.fault.Fault.{Fault}
use Rattle.jvm_definition.specs.declared.value.Value.TheVariants.{Int as int}
use Rattle.jvm_definition.specs.declared.instruction.Instruction.{Instruction}
use Rattle.jvm_definition.specs.declared.instruction.Instruction.TheVariants.{Call}
use Rattle.jvm_definition.specs.Program.{Program}
use Rattle.jvm_definition.specs.Effect.{Workspace, InstructionEffect, enters, gives, faults, with_operands, with_local}
use Rattle.jvm_definition.specs.Step.{JvmState, Frame, frame_placed}
use Rattle.mips_definition.specs.Effect.{fetch_fault, pc_align_fault}
use Rattle.emit_steps.specs.declared.step.Step.{Step}
use Rattle.emit_steps.specs.Offsets.{CodeOffset}
use Rattle.emit_steps.specs.declared.step.Step.TheVariants.{Does}
use Rattle.emit_steps.specs.Widths.{bytes_before}
use Rattle.emit_steps.specs.Outcomes.{Outcome, ended, outcome, outcome_from, left, stopped}
use Rattle.emit_steps.specs.Placing.{LiesAt}
use Rattle.emit_layout.specs.FieldNumbers.{pc_field}
use Rattle.trampoline.specs.declared.start.Start.{Start}
use Rattle.trampoline.specs.Trees.{tree}
use Rattle.trampoline.specs.Choosers.{class_chooser, main_chooser, missing_code, metered_missing_code}
use Rattle.emit_paths_laws.specs.Paths.{Path}
use Rattle.meter_laws.specs.Meters.{HasLeft, spent_fault, with_spent}
use Rattle.trampoline_laws.specs.Choosing.{AreStarts, IsMethod, IsReached, IsWithin, Rise, chosen}
use Rattle.trampoline_laws.specs.Weights.{beside_calls, turns_of}

-- It stops within so many instructions, with a workspace and an effect.
pub record Stops (program : Program) (words most : ℕ) (code : List Step) (w v : Workspace)
    (e : InstructionEffect) : Type 0 where
  pub turns : ℕ
  pub step : ℕ
  pub comes : outcome program words code w ≡ stopped turns step v e
  pub in_time : turns ≤ most

-- It comes within so many instructions to a call of a method that takes no arguments, with a workspace. From behind the call on it
-- goes on within so many instructions more, with the same number of them and in the same way for every workspace that is then there.
pub record Calls (program : Program) (words most : ℕ) (code : List Step) (w v : Workspace)
    (callee behind : ℕ) (on : ℕ → Workspace → Outcome) : Type 0 where
  pub turns : ℕ
  pub step : ℕ
  pub turns_behind : ℕ
  pub comes : outcome program words code w ≡ stopped turns step v (enters callee [] v)
  pub in_time : turns ≤ most
  pub step_is : slice_get code step ≡ Some (Does (Call callee))
  pub goes_on : (u : Workspace) → outcome_from program words code (suc step) u ≡ on turns_behind u
  pub behind_in_time : turns_behind ≤ behind

-- to the start of its method
abbrev pub begins_anew : ℕ → Workspace → Outcome
begins_anew n u = left n 0 u

-- the address in local variable 0
abbrev pub with_address : Workspace → Address → Workspace
with_address w x = with_local w 0 (int x) w.operands

-- ---- outside all code

-- the kind of the fault of a guest that stands at an address there
abbrev pub stray_kind : Address → ℕ
stray_kind x = if x % 4 == 0 then fetch_fault else pc_align_fault

abbrev pub stray_fault : Address → Fault
stray_fault x = record { kind = stray_kind x; pc = x; value = x }

-- the kind, the pc and the value on the stack, where the address is in local variable 0
abbrev pub with_stray : Workspace → Address → Workspace
with_stray w x = with_operands (with_address w x) (int x ∷ int x ∷ int (stray_kind x) ∷ w.operands)

-- ---- trees

-- The tree calls the method of the last start that is not above the address in local variable 0, or
-- the first one's where all are, with three instructions a level; behind the call it ends, with one
-- a level.
abbrev pub TreesChoose : Type 0
TreesChoose =
    (program : Program) (words levels : ℕ) (x : Address) (starts : List Start) (w : Workspace)
    → AreStarts program (2 ^ levels) starts
    → IsWord x → w.locals 0 ≡ int x
    → Calls program words (3 * levels) (tree starts) w w (chosen starts x) levels ended

-- ---- choosers, by the address in field pc

-- That of a class calls the method that belongs to the address, where this is one of the class's
-- words, and is then begun anew.
abbrev pub ClassChoosersCall : Type 0
ClassChoosersCall =
    (program : Program) (words : ℕ) (first end x : Address) (starts : List Start) (w : Workspace)
    → AreStarts program 2048 starts
    → end < 2 ^ 31
    → w.fields pc_field ≡ int x → IsWithin first end x
    → Calls program words 45 (class_chooser starts first end) w (with_address w x)
    (chosen starts x) 12 begins_anew

-- Else it returns.
abbrev pub ClassChoosersReturn : Type 0
ClassChoosersReturn =
    (program : Program) (words : ℕ) (first end x : Address) (starts : List Start) (w : Workspace)
    → first < 2 ^ 31 → end < 2 ^ 31
    → IsWord x → w.fields pc_field ≡ int x → (IsWithin first end x → ⊥)
    → Stops program words 12 (class_chooser starts first end) w (with_address w x)
    (gives None (with_address w x))

-- That of the whole program calls the method that belongs to the address, where this is a word's
-- address that is not below all starts, and is then begun anew.
abbrev pub MainChoosersCall : Type 0
MainChoosersCall =
    (program : Program) (words missing : ℕ) (x : Address) (starts : List Start) (w : Workspace)
    → AreStarts program 2048 starts
    → w.fields pc_field ≡ int x → IsReached starts x
    → Calls program words 42 (main_chooser starts missing) w (with_address w x)
    (chosen starts x) 12 begins_anew

-- Else it calls the method for addresses outside all code.
abbrev pub MainChoosersStray : Type 0
MainChoosersStray =
    (program : Program) (words missing : ℕ) (x : Address) (starts : List Start) (w : Workspace)
    → 1 ≤ length starts → Rise starts
    → IsMethod program missing
    → IsWord x → w.fields pc_field ≡ int x → (IsReached starts x → ⊥)
    → Calls program words 9 (main_chooser starts missing) w (with_address w x) missing 1 begins_anew

-- This method ends the run in the fault of the address.
abbrev pub StraysFault : Type 0
StraysFault =
    (program : Program) (words : ℕ) (x : Address) (w : Workspace)
    → w.fields pc_field ≡ int x
    → Stops program words 10 missing_code w (with_stray w x) (faults (stray_fault x))

-- That of a program with a meter does so too, where a turn is left.
abbrev pub MeteredStraysFault : Type 0
MeteredStraysFault =
    (program : Program) (words left : ℕ) (x : Address) (w : Workspace)
    → w.fields pc_field ≡ int x
    → HasLeft left w
    → 1 ≤ left
    → Stops program words 13 metered_missing_code w (with_stray w x) (faults (stray_fault x))

-- Where none is left, it ends the run in the fault of a spent meter at the address.
abbrev pub SpentStraysEnd : Type 0
SpentStraysEnd =
    (program : Program) (words : ℕ) (x : Address) (w : Workspace)
    → w.fields pc_field ≡ int x
    → HasLeft 0 w
    → Stops program words 6 metered_missing_code w (with_spent w x) (faults (spent_fault x))

-- ---- one round of a chooser

-- That of a class makes one choice, and calls its method once, where the address is one of the class's words; else it makes none, and returns.
abbrev pub ClassRound : Program → (words : ℕ) (first end x : Address) → List Start → Workspace
    → Type 0
ClassRound program words first end x starts w =
    (IsWithin first end x
    × Calls program words 45 (class_chooser starts first end) w (with_address w x)
    (chosen starts x) 12 begins_anew)
    ⊎ ((IsWithin first end x → ⊥)
    × Stops program words 12 (class_chooser starts first end) w (with_address w x)
    (gives None (with_address w x)))

-- That of the whole program makes one choice where the address is a word's that is not below all starts; else it makes none, and calls the method
-- for addresses outside all code.
abbrev pub MainRound : Program → (words missing : ℕ) (x : Address) → List Start → Workspace → Type 0
MainRound program words missing x starts w =
    (IsReached starts x
    × Calls program words 42 (main_chooser starts missing) w (with_address w x)
    (chosen starts x) 12 begins_anew)
    ⊎ ((IsReached starts x → ⊥)
    × Calls program words 9 (main_chooser starts missing) w (with_address w x) missing 1
    begins_anew)

-- Each round makes one choice or none, and which is told by the address in field pc. Until it calls, fields, arrays and operands are as they were.
pub record ChoosersChooseOnce : Type 0 where
  pub class : (program : Program) (words : ℕ) (first end x : Address) (starts : List Start)
      (w : Workspace)
      → AreStarts program 2048 starts
      → first < 2 ^ 31 → end < 2 ^ 31
      → IsWord x → w.fields pc_field ≡ int x
      → ClassRound program words first end x starts w
  pub main : (program : Program) (words missing : ℕ) (x : Address) (starts : List Start)
      (w : Workspace)
      → AreStarts program 2048 starts
      → IsMethod program missing
      → IsWord x → w.fields pc_field ≡ int x
      → MainRound program words missing x starts w

-- ---- until they call

-- As long as code goes on it makes no call: a path through it to where it stops weighs nothing for
-- calls.
abbrev pub PathsMakeNoCalls : Type 0
PathsMakeNoCalls =
    (program : Program) (words own m : ℕ) (low high at : CodeOffset) (k n : ℕ)
    (total : (Instruction → ℕ) → ℕ) (code : List Step) (w : Workspace) (others : List Frame)
    (y : JvmState)
    → LiesAt program own at code
    → turns_of (outcome_from program words code k w) ≡ n
    → Path program words m low high n total (frame_placed own (at + bytes_before code k) w others) y
    → Path program words m low high n (λ weight. total (beside_calls weight))
    (frame_placed own (at + bytes_before code k) w others) y
