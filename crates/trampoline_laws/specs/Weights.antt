-- What the code of choosers weighs.
use Rattle.std.specs.Prelude.{◌≡◌, ℕ, ◌+◌, Bool, true, false, List}
use Rattle.delay_slots.specs.Places.{Address}
use Rattle.std.specs.List.{sum_by}
use Rattle.jvm_definition.specs.declared.instruction.Instruction.{Instruction}
use Rattle.jvm_definition.specs.declared.instruction.Instruction.TheVariants.{Push, Load, Store, Array, IntArithmetic, Branch, Get, Put, Call, FaultHost, Return, NewArray}
use Rattle.emit_steps.specs.Outcomes.{Outcome, ended, left, stopped}
use Rattle.trampoline.specs.declared.start.Start.{Start}
use Rattle.trampoline.specs.Trees.{tree}
use Rattle.trampoline.specs.Choosers.{class_chooser, main_chooser, missing_method}
use Rattle.emit_paths_laws.specs.Classes.{reads, chars, switches, entries, puts}
use Rattle.emit_paths_laws.specs.Paths.{weigh}

-- instructions that move ints and fields among the operands and local variables, compare them, and go on, return or end the run
abbrev pub only_compares : Instruction → Bool
only_compares (Push constant) = true
only_compares (Load kind i) = true
only_compares (Store kind i) = true
only_compares (IntArithmetic name) = true
only_compares (Branch name target) = true
only_compares (Get f kind) = true
only_compares FaultHost = true
only_compares (Return name) = true
only_compares _ = false

-- a weight that such instructions have none of
abbrev pub SparesComparing : (Instruction → ℕ) → Type 0
SparesComparing weight = (i : Instruction) → only_compares i ≡ true → weight i ≡ 0

-- a weight that calls have none of
abbrev pub SparesCalls : (Instruction → ℕ) → Type 0
SparesCalls weight = (m : ℕ) → weight (Call m) ≡ 0

-- A weight that choosing has none of.
pub record SparesChoosing (weight : Instruction → ℕ) : Type 0 where
  pub comparing : SparesComparing weight
  pub calls : SparesCalls weight

-- the calls of the methods of starts
abbrev pub calls_weight : (Instruction → ℕ) → List Start → ℕ
calls_weight weight starts = sum_by (λ (s : Start). weight (Call s.method)) starts

-- ---- what is counted

-- what makes an array, reads or writes one, or writes a field
abbrev pub alters : Instruction → ℕ
alters (Array name) = 1
alters (Put f kind) = 1
alters (NewArray kind) = 1
alters _ = 0

-- a weight, but for that of calls
abbrev pub beside_calls : (Instruction → ℕ) → Instruction → ℕ
beside_calls weight (Call m) = 0
beside_calls weight i = weight i

-- how many instructions an outcome takes
abbrev pub turns_of : Outcome → ℕ
turns_of (ended n w) = n
turns_of (left n target w) = n
turns_of (stopped n i w e) = n

-- ---- the laws

-- By a weight, trees and choosers weigh what their calls weigh.
pub record WeighTheirCalls (weight : Instruction → ℕ) : Type 0 where
  pub trees : (starts : List Start) → weigh weight (tree starts) ≡ calls_weight weight starts
  pub class_choosers : (first end : Address) (starts : List Start)
      → weigh weight (class_chooser starts first end) ≡ calls_weight weight starts
  pub main_choosers : (missing : ℕ) (starts : List Start)
      → weigh weight (main_chooser starts missing)
      ≡ weight (Call missing) + calls_weight weight starts
  pub strays : (metered : Bool) → weigh weight (missing_method metered) ≡ 0

-- It is so by each weight that what only compares has none of.
abbrev pub ChoosersWeighTheirCalls : Type 0
ChoosersWeighTheirCalls =
    (weight : Instruction → ℕ) → SparesComparing weight → WeighTheirCalls weight

-- What is counted of the classes, and what alters, is spared.
pub record CountsSpareChoosing : Type 0 where
  pub of_reads : SparesChoosing reads
  pub of_chars : SparesChoosing chars
  pub of_switches : SparesChoosing switches
  pub of_alters : SparesChoosing alters
  -- nor is a field written
  pub of_writes : (f : ℕ) → SparesChoosing (puts f)
  -- only calls of spans count as entries
  pub of_entries : (is_span : ℕ → Bool) → SparesComparing (entries is_span)
  -- where what compares is spared, so is choosing by the weight without that of calls
  pub beside : (weight : Instruction → ℕ) → SparesComparing weight
      → SparesChoosing (beside_calls weight)

-- Calls weigh nothing by a weight that has none of them.
abbrev pub CallsAreSpared : Type 0
CallsAreSpared =
    (weight : Instruction → ℕ) (starts : List Start) → SparesCalls weight
    → calls_weight weight starts ≡ 0
