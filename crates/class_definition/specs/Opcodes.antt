-- JVM Specification, 6.5: the opcodes.
use Rattle.std.specs.Prelude.{ℕ, ◌+◌, ◌==◌, if◌then◌else◌, List, [], ◌∷◌, Option, Some, None}
use Rattle.std.specs.Option.{option_or}
use Rattle.jvm_definition.specs.declared.array_name.ArrayName.{ArrayName}
use Rattle.jvm_definition.specs.declared.array_name.ArrayName.TheVariants.{Iaload, Aaload, Iastore, Aastore}
use Rattle.jvm_definition.specs.declared.stack_name.StackName.{StackName}
use Rattle.jvm_definition.specs.declared.stack_name.StackName.TheVariants.{Pop, Pop2, Dup, DupX1, DupX2, Dup2, Swap}
use Rattle.jvm_definition.specs.declared.int_arithmetic.IntArithmetic.{IntArithmetic}
use Rattle.jvm_definition.specs.declared.int_arithmetic.IntArithmetic.TheVariants.{Iadd, Isub, Imul, Iand, Ior, Ixor}
use Rattle.jvm_definition.specs.declared.int_division.IntDivision.{IntDivision}
use Rattle.jvm_definition.specs.declared.int_division.IntDivision.TheVariants.{Idiv, Irem}
use Rattle.jvm_definition.specs.declared.int_shift.IntShift.{IntShift}
use Rattle.jvm_definition.specs.declared.int_shift.IntShift.TheVariants.{Ishl, Ishr, Iushr}
use Rattle.jvm_definition.specs.declared.long_arithmetic.LongArithmetic.{LongArithmetic}
use Rattle.jvm_definition.specs.declared.long_arithmetic.LongArithmetic.TheVariants.{Ladd, Lmul, Land}
use Rattle.jvm_definition.specs.declared.long_division.LongDivision.{LongDivision}
use Rattle.jvm_definition.specs.declared.long_division.LongDivision.TheVariants.{Ldiv, Lrem}
use Rattle.jvm_definition.specs.declared.long_shift.LongShift.{LongShift}
use Rattle.jvm_definition.specs.declared.long_shift.LongShift.TheVariants.{Lshl, Lshr, Lushr}
use Rattle.jvm_definition.specs.declared.conversion.Conversion.{Conversion}
use Rattle.jvm_definition.specs.declared.conversion.Conversion.TheVariants.{I2l, L2i, I2b, I2c, I2s}
use Rattle.jvm_definition.specs.declared.return_name.ReturnName.{ReturnName}
use Rattle.jvm_definition.specs.declared.return_name.ReturnName.TheVariants.{Ireturn, Return}
use Rattle.jvm_definition.specs.declared.branch_name.BranchName.{BranchName}
use Rattle.jvm_definition.specs.declared.branch_name.BranchName.TheVariants.{Ifeq, Ifne, Iflt, Ifge, Ifgt, Ifle, IfIcmpeq, IfIcmpne, IfIcmplt, IfIcmpge, IfIcmpgt, IfIcmple, Goto, Ifnull, Ifnonnull}
use Rattle.class_definition.specs.declared.iconst.Iconst.{Iconst}
use Rattle.class_definition.specs.declared.iconst.Iconst.TheVariants as iconsts
use Rattle.class_definition.specs.declared.local_name.LocalName.{LocalName}
use Rattle.class_definition.specs.declared.local_name.LocalName.TheVariants.{Iload, Aload, Istore, Astore}
use Rattle.class_definition.specs.declared.pool_name.PoolName.{PoolName}
use Rattle.class_definition.specs.declared.pool_name.PoolName.TheVariants.{LdcW, Ldc2W, Getstatic, Putstatic, Invokevirtual, Invokestatic, Anewarray}
use Rattle.class_definition.specs.declared.short_index.ShortIndex.{ShortIndex}
use Rattle.class_definition.specs.declared.short_index.ShortIndex.TheVariants.{Zero, One, Two, Three}
use Rattle.class_definition.specs.declared.op.Op.{Op}
use Rattle.class_definition.specs.declared.op.Op.TheVariants as ops

abbrev pub iconst_opcode : Iconst → ℕ
iconst_opcode iconsts.M1 = 2
iconst_opcode iconsts.Zero = 3
iconst_opcode iconsts.One = 4
iconst_opcode iconsts.Two = 5
iconst_opcode iconsts.Three = 6
iconst_opcode iconsts.Four = 7
iconst_opcode iconsts.Five = 8

abbrev pub array_name_opcode : ArrayName → ℕ
array_name_opcode Iaload = 46
array_name_opcode Aaload = 50
array_name_opcode Iastore = 79
array_name_opcode Aastore = 83

abbrev pub stack_name_opcode : StackName → ℕ
stack_name_opcode Pop = 87
stack_name_opcode Pop2 = 88
stack_name_opcode Dup = 89
stack_name_opcode DupX1 = 90
stack_name_opcode DupX2 = 91
stack_name_opcode Dup2 = 92
stack_name_opcode Swap = 95

abbrev pub int_arithmetic_opcode : IntArithmetic → ℕ
int_arithmetic_opcode Iadd = 96
int_arithmetic_opcode Isub = 100
int_arithmetic_opcode Imul = 104
int_arithmetic_opcode Iand = 126
int_arithmetic_opcode Ior = 128
int_arithmetic_opcode Ixor = 130

abbrev pub int_division_opcode : IntDivision → ℕ
int_division_opcode Idiv = 108
int_division_opcode Irem = 112

abbrev pub int_shift_opcode : IntShift → ℕ
int_shift_opcode Ishl = 120
int_shift_opcode Ishr = 122
int_shift_opcode Iushr = 124

abbrev pub long_arithmetic_opcode : LongArithmetic → ℕ
long_arithmetic_opcode Ladd = 97
long_arithmetic_opcode Lmul = 105
long_arithmetic_opcode Land = 127

abbrev pub long_division_opcode : LongDivision → ℕ
long_division_opcode Ldiv = 109
long_division_opcode Lrem = 113

abbrev pub long_shift_opcode : LongShift → ℕ
long_shift_opcode Lshl = 121
long_shift_opcode Lshr = 123
long_shift_opcode Lushr = 125

abbrev pub conversion_opcode : Conversion → ℕ
conversion_opcode I2l = 133
conversion_opcode L2i = 136
conversion_opcode I2b = 145
conversion_opcode I2c = 146
conversion_opcode I2s = 147

abbrev pub return_name_opcode : ReturnName → ℕ
return_name_opcode Ireturn = 172
return_name_opcode Return = 177

abbrev pub local_name_opcode : LocalName → ℕ
local_name_opcode Iload = 21
local_name_opcode Aload = 25
local_name_opcode Istore = 54
local_name_opcode Astore = 58

abbrev pub branch_name_opcode : BranchName → ℕ
branch_name_opcode Ifeq = 153
branch_name_opcode Ifne = 154
branch_name_opcode Iflt = 155
branch_name_opcode Ifge = 156
branch_name_opcode Ifgt = 157
branch_name_opcode Ifle = 158
branch_name_opcode IfIcmpeq = 159
branch_name_opcode IfIcmpne = 160
branch_name_opcode IfIcmplt = 161
branch_name_opcode IfIcmpge = 162
branch_name_opcode IfIcmpgt = 163
branch_name_opcode IfIcmple = 164
branch_name_opcode Goto = 167
branch_name_opcode Ifnull = 198
branch_name_opcode Ifnonnull = 199

abbrev pub pool_name_opcode : PoolName → ℕ
pool_name_opcode LdcW = 19
pool_name_opcode Ldc2W = 20
pool_name_opcode Getstatic = 178
pool_name_opcode Putstatic = 179
pool_name_opcode Invokevirtual = 182
pool_name_opcode Invokestatic = 184
pool_name_opcode Anewarray = 189

-- the opcodes that name a local variable by themselves
abbrev pub first_opcode : LocalName → ℕ
first_opcode Iload = 26
first_opcode Aload = 42
first_opcode Istore = 59
first_opcode Astore = 75

abbrev pub short_opcode : LocalName → ShortIndex → ℕ
short_opcode name Zero = first_opcode name
short_opcode name One = first_opcode name + 1
short_opcode name Two = first_opcode name + 2
short_opcode name Three = first_opcode name + 3

-- the entry behind a number in a table
abbrev pub row_of : {A : Type 0} → ℕ → List (ℕ × A) → Option A
row_of n [] = None
row_of n (row ∷ rows) = if row.0 == n then Some row.1 else row_of n rows

-- ---- instructions without operands

abbrev pub constants : List (ℕ × Op)
constants =
    (0, ops.Nop)
    ∷ (1, ops.AconstNull)
    ∷ (2, ops.Iconst iconsts.M1)
    ∷ (3, ops.Iconst iconsts.Zero)
    ∷ (4, ops.Iconst iconsts.One)
    ∷ (5, ops.Iconst iconsts.Two)
    ∷ (6, ops.Iconst iconsts.Three)
    ∷ (7, ops.Iconst iconsts.Four)
    ∷ (8, ops.Iconst iconsts.Five)
    ∷ []

abbrev pub short_locals : List (ℕ × Op)
short_locals =
    (26, ops.ShortLocal Iload Zero)
    ∷ (27, ops.ShortLocal Iload One)
    ∷ (28, ops.ShortLocal Iload Two)
    ∷ (29, ops.ShortLocal Iload Three)
    ∷ (42, ops.ShortLocal Aload Zero)
    ∷ (43, ops.ShortLocal Aload One)
    ∷ (44, ops.ShortLocal Aload Two)
    ∷ (45, ops.ShortLocal Aload Three)
    ∷ (59, ops.ShortLocal Istore Zero)
    ∷ (60, ops.ShortLocal Istore One)
    ∷ (61, ops.ShortLocal Istore Two)
    ∷ (62, ops.ShortLocal Istore Three)
    ∷ (75, ops.ShortLocal Astore Zero)
    ∷ (76, ops.ShortLocal Astore One)
    ∷ (77, ops.ShortLocal Astore Two)
    ∷ (78, ops.ShortLocal Astore Three)
    ∷ []

abbrev pub move_opcodes : List (ℕ × Op)
move_opcodes =
    (46, ops.Array Iaload)
    ∷ (50, ops.Array Aaload)
    ∷ (79, ops.Array Iastore)
    ∷ (83, ops.Array Aastore)
    ∷ (87, ops.Stack Pop)
    ∷ (88, ops.Stack Pop2)
    ∷ (89, ops.Stack Dup)
    ∷ (90, ops.Stack DupX1)
    ∷ (91, ops.Stack DupX2)
    ∷ (92, ops.Stack Dup2)
    ∷ (95, ops.Stack Swap)
    ∷ []

abbrev pub arithmetic_opcodes : List (ℕ × Op)
arithmetic_opcodes =
    (96, ops.IntArithmetic Iadd)
    ∷ (100, ops.IntArithmetic Isub)
    ∷ (104, ops.IntArithmetic Imul)
    ∷ (126, ops.IntArithmetic Iand)
    ∷ (128, ops.IntArithmetic Ior)
    ∷ (130, ops.IntArithmetic Ixor)
    ∷ (108, ops.IntDivision Idiv)
    ∷ (112, ops.IntDivision Irem)
    ∷ (120, ops.IntShift Ishl)
    ∷ (122, ops.IntShift Ishr)
    ∷ (124, ops.IntShift Iushr)
    ∷ (97, ops.LongArithmetic Ladd)
    ∷ (105, ops.LongArithmetic Lmul)
    ∷ (127, ops.LongArithmetic Land)
    ∷ (109, ops.LongDivision Ldiv)
    ∷ (113, ops.LongDivision Lrem)
    ∷ (121, ops.LongShift Lshl)
    ∷ (123, ops.LongShift Lshr)
    ∷ (125, ops.LongShift Lushr)
    ∷ []

abbrev pub others : List (ℕ × Op)
others =
    (133, ops.Convert I2l)
    ∷ (136, ops.Convert L2i)
    ∷ (145, ops.Convert I2b)
    ∷ (146, ops.Convert I2c)
    ∷ (147, ops.Convert I2s)
    ∷ (148, ops.Lcmp)
    ∷ (172, ops.Give Ireturn)
    ∷ (177, ops.Give Return)
    ∷ (190, ops.Arraylength)
    ∷ []

abbrev pub plain_of : ℕ → Option Op
plain_of opcode =
    option_or (row_of opcode constants)
    (option_or (row_of opcode short_locals)
    (option_or (row_of opcode move_opcodes) (option_or (row_of opcode arithmetic_opcodes) (row_of opcode others))))

-- ---- instructions of one form with an operand

abbrev pub local_names : List (ℕ × LocalName)
local_names =
    (21, Iload)
    ∷ (25, Aload)
    ∷ (54, Istore)
    ∷ (58, Astore)
    ∷ []

abbrev pub branch_names : List (ℕ × BranchName)
branch_names =
    (153, Ifeq)
    ∷ (154, Ifne)
    ∷ (155, Iflt)
    ∷ (156, Ifge)
    ∷ (157, Ifgt)
    ∷ (158, Ifle)
    ∷ (159, IfIcmpeq)
    ∷ (160, IfIcmpne)
    ∷ (161, IfIcmplt)
    ∷ (162, IfIcmpge)
    ∷ (163, IfIcmpgt)
    ∷ (164, IfIcmple)
    ∷ (167, Goto)
    ∷ (198, Ifnull)
    ∷ (199, Ifnonnull)
    ∷ []

abbrev pub pool_names : List (ℕ × PoolName)
pool_names =
    (19, LdcW)
    ∷ (20, Ldc2W)
    ∷ (178, Getstatic)
    ∷ (179, Putstatic)
    ∷ (182, Invokevirtual)
    ∷ (184, Invokestatic)
    ∷ (189, Anewarray)
    ∷ []
