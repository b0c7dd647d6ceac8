-- The helper methods of products and quotients, of two words: the results go to HI and LO.
use Rattle.std.specs.Prelude.{ℕ, List, [], ◌∷◌, ◌++◌}
use Rattle.jvm_definition.specs.declared.branch_name.BranchName.TheVariants.{Ifne}
use Rattle.jvm_definition.specs.declared.conversion.Conversion.TheVariants.{I2l, L2i}
use Rattle.jvm_definition.specs.declared.int_division.IntDivision.{IntDivision}
use Rattle.jvm_definition.specs.declared.int_division.IntDivision.TheVariants.{Idiv, Irem}
use Rattle.jvm_definition.specs.declared.long_arithmetic.LongArithmetic.TheVariants.{Land, Lmul}
use Rattle.jvm_definition.specs.declared.long_division.LongDivision.{LongDivision}
use Rattle.jvm_definition.specs.declared.long_division.LongDivision.TheVariants.{Ldiv, Lrem}
use Rattle.jvm_definition.specs.declared.long_shift.LongShift.TheVariants.{Lushr}
use Rattle.jvm_definition.specs.declared.stack_name.StackName.TheVariants.{Dup2}
use Rattle.jvm_definition.specs.declared.constant.Constant.TheVariants as constants
use Rattle.jvm_definition.specs.declared.instruction.Instruction.TheVariants as instructions
use Rattle.emit_steps.specs.declared.step.Step.{Step}
use Rattle.emit_steps.specs.declared.step.Step.TheVariants.{Does, Skips}
use Rattle.emit_layout.specs.FieldNumbers.{hi_field, lo_field}
use Rattle.emit_instructions.specs.Access.{push_word, put_field}
use Rattle.mem_helpers.specs.Parts.{load, stack}
use Rattle.mem_helpers.specs.Stores.{returns_nothing}

-- a word as a long, with its sign and without
abbrev pub signed_long : ℕ → List Step
signed_long i = load i ∷ Does (instructions.Convert I2l) ∷ []

abbrev pub plain_long : ℕ → List Step
plain_long i = signed_long i ++ Does (instructions.Push (constants.Long 0xFFFF_FFFF))
    ∷ Does (instructions.LongArithmetic Land) ∷ []

abbrev pub signed_longs : List Step
signed_longs = signed_long 0 ++ signed_long 1

abbrev pub plain_longs : List Step
plain_longs = plain_long 0 ++ plain_long 1

-- the low word of a long goes to a field
abbrev pub low_to : ℕ → List Step
low_to field = Does (instructions.Convert L2i) ∷ put_field field ∷ []

-- the product of two longs goes to HI and LO
abbrev pub multiplied_code : List Step
multiplied_code =
    Does (instructions.LongArithmetic Lmul) ∷ stack Dup2
    ∷ (low_to lo_field ++ push_word 32 ∷ Does (instructions.LongShift Lushr)
    ∷ (low_to hi_field ++ returns_nothing))

abbrev pub mult_method : List Step
mult_method = signed_longs ++ multiplied_code

abbrev pub multu_method : List Step
multu_method = plain_longs ++ multiplied_code

-- by 0, LO is FFFFFFFF and HI the dividend; else the code behind goes on
abbrev pub by_zero_code : List Step
by_zero_code =
    load 1 ∷ Skips Ifne 5 ∷ push_word 0xFFFF_FFFF ∷ put_field lo_field ∷ load 0 ∷ put_field hi_field
    ∷ returns_nothing

abbrev pub int_divided : IntDivision → ℕ → List Step
int_divided name field = load 0 ∷ load 1 ∷ Does (instructions.IntDivision name) ∷ put_field field
    ∷ []

abbrev pub long_quotient : LongDivision → ℕ → List Step
long_quotient name field = Does (instructions.LongDivision name) ∷ low_to field

abbrev pub long_divided : LongDivision → ℕ → List Step
long_divided name field = plain_longs ++ long_quotient name field

abbrev pub div_method : List Step
div_method = by_zero_code ++ int_divided Idiv lo_field ++ int_divided Irem hi_field
    ++ returns_nothing

abbrev pub divu_method : List Step
divu_method = by_zero_code ++ long_divided Ldiv lo_field ++ long_divided Lrem hi_field
    ++ returns_nothing
