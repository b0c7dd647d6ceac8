-- The operations of instructions and steps, one by one.
use Rattle.std.specs.Prelude.{◌≡◌, ℕ, suc, ◌+◌, ◌^◌, ◌<◌, ◌≤◌, pos, negsuc, ◌&&◌, ◌==◌, nat_lt, Bool, true, false, if◌then◌else◌, List, [], ◌∷◌, length, slice_index, Option, Some, None, is_some, IfSome, All}
use Rattle.std.specs.Int.{cast_signed, w64}
use Rattle.std.specs.List.{list_all}
use Rattle.run_definition.specs.Words.{signed_of}
use Rattle.jvm_definition.specs.declared.array_kind.ArrayKind.TheVariants.{Ints}
use Rattle.jvm_definition.specs.declared.constant.Constant.{Constant}
use Rattle.jvm_definition.specs.declared.constant.Constant.TheVariants as constants
use Rattle.jvm_definition.specs.declared.local_kind.LocalKind.{LocalKind}
use Rattle.jvm_definition.specs.declared.local_kind.LocalKind.TheVariants.{Int, Reference}
use Rattle.jvm_definition.specs.declared.instruction.Instruction.{Instruction}
use Rattle.jvm_definition.specs.declared.instruction.Instruction.TheVariants as instructions
use Rattle.jvm_definition.specs.Program.{line_in, instruction_targets}
use Rattle.class_definition.specs.declared.entry.Entry.{Entry}
use Rattle.class_definition.specs.declared.entry.Entry.TheVariants as entries
use Rattle.constant_pool.specs.Slots.{IsAt}
use Rattle.class_definition.specs.declared.class.Class.{Class}
use Rattle.class_definition.specs.declared.op.Op.{Op}
use Rattle.class_definition.specs.declared.op.Op.TheVariants as ops
use Rattle.class_definition.specs.declared.local_name.LocalName.{LocalName}
use Rattle.class_definition.specs.declared.local_name.LocalName.TheVariants.{Iload, Aload, Istore, Astore}
use Rattle.class_definition.specs.declared.short_index.ShortIndex.TheVariants.{Zero, One, Two, Three}
use Rattle.class_definition.specs.declared.pool_name.PoolName.{PoolName}
use Rattle.class_definition.specs.Code.{targets_of as op_targets}
use Rattle.class_definition.specs.Instructions.{operands_fit}
use Rattle.class_definition.specs.Sizes.{size_at}
use Rattle.class_definition.specs.Linking.{linked_instruction}
use Rattle.emit_steps.specs.declared.step.Step.{Step}
use Rattle.emit_steps.specs.declared.step.Step.TheVariants.{Does, Skips, Leaves, Selects}
use Rattle.emit_steps.specs.Offsets.{CodeOffset}
use Rattle.emit_steps.specs.Widths.{lies_from, instruction_width, width, bytes_before}
use Rattle.emit_steps.specs.Placing.{laid}
use Rattle.emit_steps.specs.Switches.{needs_no_padding}
use Rattle.emit_assembly.specs.declared.references.References.{References}
use Rattle.emit_assembly.specs.Assembling.{Extends, IsKnown, slots_beside, has_operation, switch_has_operation, step_has_operation, reference_of}

-- ---- what an operation of an instruction is

-- It has the instruction's width and targets, it can be spelled, and it is linked to the instruction in each class that knows what that
-- names and whose pool has this one at its front.
pub record IsOperation (r : References) (pool : List Entry) (i : Instruction) (op : Op)
    : Type 0 where
  pub wide : (at : CodeOffset) → size_at at op ≡ instruction_width i
  pub fits : (at : CodeOffset) → operands_fit at op ≡ true
  pub targets : op_targets op ≡ instruction_targets i
  pub linked : (classes : List Class) (number : ℕ) (c : Class) (gives : Bool) → Extends pool c.pool
      → IsKnown r classes number c gives i → linked_instruction classes number c gives op ≡ i

-- The operation of the i-th step, where the offset behind each step is known.
abbrev pub IsStepOperation : References → List Entry → List CodeOffset → ℕ → Step → Op → Type 0
IsStepOperation r pool ends i (Does instruction) op = IsOperation r pool instruction op
IsStepOperation r pool ends i (Skips name k) op = op ≡ ops.Branch name (slice_index ends (i + k))
IsStepOperation r pool ends i (Leaves target) op = (op ≡ ops.GotoW target) × (target < 2 ^ 32)
IsStepOperation r pool ends i (Selects s) op = op ≡ ops.TableSwitch s

-- the i-th of so many steps has one, as far as it is seen from its number
abbrev pub has_operation_at : References → ℕ → ℕ → Step → Bool
has_operation_at r count i (Does instruction) = has_operation r instruction
has_operation_at r count i (Skips name k) = nat_lt (i + k) count
has_operation_at r count i (Leaves target) = true
has_operation_at r count i (Selects s) = true

-- ---- constants

-- an instruction with the slot of an entry
pub record IsInSlot (pool : List Entry) (name : PoolName) (e : Entry) (op : Op) : Type 0 where
  pub slot : ℕ
  pub small : slot < 2 ^ 16
  pub is : op ≡ ops.Pool name slot
  pub there : IsAt pool slot e

-- the entry of a constant, if it takes a slot
abbrev pub entry_of : Constant → Option Entry
entry_of constants.Null = None
entry_of (constants.Int n) = if lies_from (negsuc 32767) (pos 32767) (signed_of n) then None
    else Some (entries.Integer (signed_of n))
entry_of (constants.Long bits) = Some (entries.Long (cast_signed w64 bits))
entry_of (constants.Text class slot) = Some (entries.Text slot)

-- the entry of a constant stands in a pool, if it takes a slot
abbrev pub Has : List Entry → Constant → Type 0
Has pool constant = IfSome (entry_of constant) (λ e. (slot : ℕ) × IsAt pool slot e)

-- Constants are put into a pool: nothing changes where all are there, and they take no more slots than they need.
pub record AddsConstants (old new : List Entry) (added : List Constant) : Type 0 where
  pub same : All (Has old) added → new ≡ old
  pub few : length new ≤ length old + slots_beside [] added

-- One of the constants is not there, and fewer slots are left than they need.
pub record LacksSlots (old : List Entry) (added : List Constant) : Type 0 where
  pub lacks : All (Has old) added → ⊥
  pub few : 65534 < length old + slots_beside [] added

abbrev pub is_push : Instruction → Bool
is_push (instructions.Push constant) = true
is_push _ = false

-- ---- the other instructions

abbrev pub load_name : LocalKind → LocalName
load_name Int = Iload
load_name Reference = Aload

abbrev pub store_name : LocalKind → LocalName
store_name Int = Istore
store_name Reference = Astore

-- the first four local variables are named by the opcode
abbrev pub local_operation : LocalName → ℕ → Op
local_operation name i =
    if i == 0 then ops.ShortLocal name Zero
    else if i == 1 then ops.ShortLocal name One
    else if i == 2 then ops.ShortLocal name Two
    else if i == 3 then ops.ShortLocal name Three else ops.Local name i

-- an instruction with a slot
abbrev pub pool_operation : Option (PoolName × ℕ) → Op
pool_operation None = ops.Nop
pool_operation (Some x) = ops.Pool x.0 x.1

abbrev pub operation_of : References → Instruction → Op
operation_of r (instructions.Load kind i) = local_operation (load_name kind) i
operation_of r (instructions.Store kind i) = local_operation (store_name kind) i
operation_of r (instructions.Array name) = ops.Array name
operation_of r (instructions.Stack name) = ops.Stack name
operation_of r (instructions.IntArithmetic name) = ops.IntArithmetic name
operation_of r (instructions.IntDivision name) = ops.IntDivision name
operation_of r (instructions.IntShift name) = ops.IntShift name
operation_of r (instructions.LongArithmetic name) = ops.LongArithmetic name
operation_of r (instructions.LongDivision name) = ops.LongDivision name
operation_of r (instructions.LongShift name) = ops.LongShift name
operation_of r (instructions.Increment i by) = ops.Iinc i (signed_of by)
operation_of r (instructions.Convert name) = ops.Convert name
operation_of r instructions.LongCompare = ops.Lcmp
operation_of r (instructions.Return name) = ops.Give name
operation_of r (instructions.NewArray Ints) = ops.Newarray
operation_of r instructions.ArrayLength = ops.Arraylength
operation_of r instruction = pool_operation (reference_of r instruction)

-- ---- code that can be assembled into a method

-- the offset behind each step
pub record AreEnds (code : List Step) (ends : List CodeOffset) : Type 0 where
  pub len : length ends ≡ length code
  pub each : (k : ℕ) → k < length code → slice_index ends k ≡ bytes_before code (suc k)

-- a step stands at an offset
abbrev pub is_start : List Step → CodeOffset → Bool
is_start code target = is_some (line_in (laid 0 code) target)

-- a step of code at an offset, with others behind it: it has an operation, needs no padding, and its targets are steps' offsets
abbrev pub step_fits : References → List Step → CodeOffset → Step → List Step → Bool
step_fits r code at (Does instruction) others = has_operation r instruction
step_fits r code at (Skips name k) others =
    step_has_operation r (Skips name k) others && is_start code (at + 3 + bytes_before others k)
step_fits r code at (Leaves target) others = is_start code target
step_fits r code at (Selects s) others =
    needs_no_padding at (Selects s) && switch_has_operation s
    && list_all (is_start code) (s.default ∷ s.targets)

-- the first of steps
abbrev pub first_fits : References → List Step → CodeOffset → List Step → Bool
first_fits r code at [] = true
first_fits r code at (s ∷ others) = step_fits r code at s others

abbrev pub steps_fit : References → List Step → CodeOffset → List Step → Bool
steps_fit r code at [] = true
steps_fit r code at (s ∷ others) = step_fits r code at s others
    && steps_fit r code (at + width s) others
