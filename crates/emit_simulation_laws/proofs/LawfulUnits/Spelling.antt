-- The instructions that words spell, form by form and row by row.
use Rattle.std.proofs.Common.{◌≡◌, ℕ, Bool, true, false, cond, if◌then◌else◌, Some, List, [], ◌∷◌, refl, arith}
use Rattle.std.specs.Prelude.{⊤, find}
use Rattle.run_definition.specs.Words.{IsWord}
use Rattle.mips_definition.specs.declared.inst.Inst.{Inst}
use Rattle.mips_definition.specs.declared.inst.Inst.TheVariants.{Float, Reserved}
use Rattle.mips_definition.specs.declared.names.arithmetic_name.ArithmeticName.{ArithmeticName}
use Rattle.mips_definition.specs.declared.names.variable_shift_name.VariableShiftName.{VariableShiftName}
use Rattle.mips_definition.specs.declared.names.shift_name.ShiftName.{ShiftName}
use Rattle.mips_definition.specs.declared.names.hi_lo.HiLo.{HiLo}
use Rattle.mips_definition.specs.declared.names.product_name.ProductName.{ProductName}
use Rattle.mips_definition.specs.declared.names.branch_sign_name.BranchSignName.{BranchSignName}
use Rattle.mips_definition.specs.declared.names.jump_name.JumpName.{JumpName}
use Rattle.mips_definition.specs.declared.names.branch_equal_name.BranchEqualName.{BranchEqualName}
use Rattle.mips_definition.specs.declared.names.branch_zero_name.BranchZeroName.{BranchZeroName}
use Rattle.mips_definition.specs.declared.names.arithmetic_immediate_name.ArithmeticImmediateName.{ArithmeticImmediateName}
use Rattle.mips_definition.specs.declared.names.logical_immediate_name.LogicalImmediateName.{LogicalImmediateName}
use Rattle.mips_definition.specs.declared.names.load_name.LoadName.{LoadName}
use Rattle.mips_definition.specs.declared.names.store_name.StoreName.{StoreName}
use Rattle.mips_definition.specs.declared.names.trap_name.TrapName.{TrapName}
use Rattle.mips_definition.specs.declared.names.trap_immediate_name.TrapImmediateName.{TrapImmediateName}
use Rattle.mips_definition.specs.declared.names.branch_sign_name.BranchSignName.TheVariants.{Bltz, Bgez, Bltzal, Bgezal, Bltzl, Bgezl, Bltzall, Bgezall}
use Rattle.mips_definition.specs.declared.names.jump_name.JumpName.TheVariants.{J, Jal}
use Rattle.mips_definition.specs.declared.names.load_name.LoadName.TheVariants.{Lb, Lh, Lwl, Lw, Lbu, Lhu, Lwr}
use Rattle.mips_definition.specs.Table.{Row, instruction_table, fits_row, read_row, no_row, inst, is_float}
use Rattle.mips_definition.specs.Table as forms
use Rattle.emit_simulation_laws.specs.Knowing.{HasFields}
use Rattle.emit_simulation_laws.specs.Lawful.{is_float_inst, value_of}

pub record IsSpelled (w : ℕ) (i : Inst) : Type 0 where
  pub fields : HasFields i
  pub value : IsWord (value_of i)
  pub no_float : is_float w ≡ false → is_float_inst i ≡ false

abbrev Spells : (ℕ → Inst) → Type 0
Spells read = (w : ℕ) → IsWord w → IsSpelled w (read w)

-- ---- form by form

arithmetic_spells : (name : ArithmeticName) → Spells (forms.arithmetic name)
arithmetic_spells name w word = grind arith

variable_shift_spells : (name : VariableShiftName) → Spells (forms.variable_shift name)
variable_shift_spells name w word = grind arith

shift_spells : (name : ShiftName) → Spells (forms.shift name)
shift_spells name w word = grind arith

jump_register_spells : Spells forms.jump_register
jump_register_spells w word = grind arith

jump_and_link_register_spells : Spells forms.jump_and_link_register
jump_and_link_register_spells w word = grind arith

syscall_spells : Spells forms.syscall
syscall_spells w word = grind arith

break_spells : Spells forms.break
break_spells w word = grind arith

move_from_spells : (name : HiLo) → Spells (forms.move_from name)
move_from_spells name w word = grind arith

move_to_spells : (name : HiLo) → Spells (forms.move_to name)
move_to_spells name w word = grind arith

product_spells : (name : ProductName) → Spells (forms.product name)
product_spells name w word = grind arith

branch_sign_spells : (name : BranchSignName) → Spells (forms.branch_sign name)
branch_sign_spells Bltz w word = grind arith
branch_sign_spells Bgez w word = grind arith
branch_sign_spells Bltzal w word = grind arith
branch_sign_spells Bgezal w word = grind arith
branch_sign_spells Bltzl w word = grind arith
branch_sign_spells Bgezl w word = grind arith
branch_sign_spells Bltzall w word = grind arith
branch_sign_spells Bgezall w word = grind arith

jump_spells : (name : JumpName) → Spells (forms.jump name)
jump_spells J w word = grind arith
jump_spells Jal w word = grind arith

branch_equal_spells : (name : BranchEqualName) → Spells (forms.branch_equal name)
branch_equal_spells name w word = grind arith

branch_zero_spells : (name : BranchZeroName) → Spells (forms.branch_zero name)
branch_zero_spells name w word = grind arith

arithmetic_immediate_spells : (name : ArithmeticImmediateName) → Spells (forms.arithmetic_immediate name)
arithmetic_immediate_spells name w word = grind arith

logical_immediate_spells : (name : LogicalImmediateName) → Spells (forms.logical_immediate name)
logical_immediate_spells name w word = grind arith

load_upper_spells : Spells forms.load_upper
load_upper_spells w word = grind arith

load_spells : (name : LoadName) → Spells (forms.load name)
load_spells Lb w word = grind arith
load_spells Lh w word = grind arith
load_spells Lwl w word = grind arith
load_spells Lw w word = grind arith
load_spells Lbu w word = grind arith
load_spells Lhu w word = grind arith
load_spells Lwr w word = grind arith

store_spells : (name : StoreName) → Spells (forms.store name)
store_spells name w word = grind arith

trap_spells : (name : TrapName) → Spells (forms.trap name)
trap_spells name w word = grind arith

trap_immediate_spells : (name : TrapImmediateName) → Spells (forms.trap_immediate name)
trap_immediate_spells name w word = grind arith

sync_spells : Spells forms.sync
sync_spells w word = grind arith

load_linked_spells : Spells forms.load_linked
load_linked_spells w word = grind arith

store_conditional_spells : Spells forms.store_conditional
store_conditional_spells w word = grind arith

no_row_spells : (w : ℕ) → IsWord w → IsSpelled w (no_row w)
no_row_spells w word = by_test (is_float w) refl
  where
    by_test : (float : Bool) → is_float w ≡ float → IsSpelled w (if float then Float w else Reserved w)
    by_test true e = grind arith
    by_test false e = grind arith

-- ---- row by row

abbrev EachSpells : List Row → Type 0
EachSpells [] = ⊤
EachSpells (row ∷ rows) = Spells row.read × EachSpells rows

found_spells : (w : ℕ) (rows : List Row) → IsWord w → EachSpells rows → IsSpelled w (read_row w (find (fits_row w) rows))
found_spells w [] word each = no_row_spells w word
found_spells w (row ∷ rows) word each = by_test (fits_row w row) (each.0 w word) (found_spells w rows word each.1)
  where
    by_test : (here : Bool) → IsSpelled w (row.read w) → IsSpelled w (read_row w (find (fits_row w) rows))
        → IsSpelled w (read_row w (cond here (Some row) (find (fits_row w) rows)))
    by_test true first later = first
    by_test false first later = later

infixr 20 ◌&◌
◌&◌ : {A B : Type 0} → A → B → A × B
a & b = (a, b)

table_spells : EachSpells instruction_table
table_spells =
    variable_shift_spells _ & variable_shift_spells _ & variable_shift_spells _ & arithmetic_spells _ & arithmetic_spells _
    & arithmetic_spells _ & arithmetic_spells _ & arithmetic_spells _ & arithmetic_spells _ & arithmetic_spells _ & arithmetic_spells _
    & arithmetic_spells _ & arithmetic_spells _ & shift_spells _ & shift_spells _ & shift_spells _ & jump_register_spells
    & jump_and_link_register_spells & syscall_spells & break_spells & sync_spells & move_from_spells _ & move_from_spells _
    & move_to_spells _ & move_to_spells _ & product_spells _ & product_spells _ & product_spells _ & product_spells _ & trap_spells _
    & trap_spells _ & trap_spells _ & trap_spells _ & trap_spells _ & trap_spells _ & branch_sign_spells _ & branch_sign_spells _
    & branch_sign_spells _ & branch_sign_spells _ & branch_sign_spells _ & branch_sign_spells _ & branch_sign_spells _
    & branch_sign_spells _ & trap_immediate_spells _ & trap_immediate_spells _ & trap_immediate_spells _ & trap_immediate_spells _
    & trap_immediate_spells _ & trap_immediate_spells _ & jump_spells _ & jump_spells _ & branch_equal_spells _ & branch_equal_spells _
    & branch_equal_spells _ & branch_equal_spells _ & arithmetic_immediate_spells _ & arithmetic_immediate_spells _
    & arithmetic_immediate_spells _ & arithmetic_immediate_spells _ & logical_immediate_spells _ & logical_immediate_spells _
    & logical_immediate_spells _ & branch_zero_spells _ & branch_zero_spells _ & branch_zero_spells _ & branch_zero_spells _
    & load_upper_spells & load_spells _ & load_spells _ & load_spells _ & load_spells _ & load_spells _ & load_spells _ & load_spells _
    & store_spells _ & store_spells _ & store_spells _ & store_spells _ & store_spells _ & load_linked_spells & store_conditional_spells
    & tt

pub word_is_spelled : (w : ℕ) → IsWord w → IsSpelled w (inst w)
unfolding inst
word_is_spelled w word = found_spells w instruction_table word table_spells
