-- Which registers are known before and after code, and the fields of instructions that words spell.
use Rattle.std.specs.Prelude.{◌≡◌, ℕ, ◌<◌, ◌==◌, ◌^◌, Bool, true, ◌||◌, ◌⊎◌, List, [], ◌∷◌, ⊤}
use Rattle.mips_definition.specs.declared.inst.Inst.{Inst}
use Rattle.mips_definition.specs.declared.inst.Inst.TheVariants as inst
use Rattle.block_builder.specs.Registers.{Register, general, special, read_by, written_by}

-- a register that code may read: register 0, or a known one
abbrev pub IsKnown : (ℕ → Bool) → ℕ → Type 0
IsKnown known r = (r ≡ 0) ⊎ ((r < 32) × (known r ≡ true))

-- one register more
abbrev pub gaining : (ℕ → Bool) → ℕ → ℕ → Bool
gaining known d = λ r. d == r || known r

-- code that reads registers finds each of them known
abbrev pub AreKnown : (ℕ → Bool) → List Register → Type 0
AreKnown known [] = ⊤
AreKnown known (general r ∷ registers) = IsKnown known r × AreKnown known registers
AreKnown known (special name ∷ registers) = AreKnown known registers

-- the known registers and those that are written
abbrev pub gained : List Register → (ℕ → Bool) → ℕ → Bool
gained [] known = known
gained (general d ∷ registers) known = gained registers (gaining known d)
gained (special name ∷ registers) known = gained registers known

-- ---- instructions as words spell them

-- registers of five bits
abbrev pub AreNumbers : List Register → Type 0
AreNumbers [] = ⊤
AreNumbers (general r ∷ registers) = (r < 32) × AreNumbers registers
AreNumbers (special name ∷ registers) = AreNumbers registers

abbrev pub immediate_of : Inst → ℕ
immediate_of (inst.ArithmeticImmediate name rs rt imm) = imm
immediate_of (inst.LogicalImmediate name rs rt imm) = imm
immediate_of (inst.LoadUpper rt imm) = imm
immediate_of (inst.Load name rs rt imm) = imm
immediate_of (inst.Store name rs rt imm) = imm
immediate_of (inst.TrapImmediate name rs imm) = imm
immediate_of (inst.LoadLinked rs rt imm) = imm
immediate_of (inst.StoreConditional rs rt imm) = imm
immediate_of _ = 0

abbrev pub amount_of : Inst → ℕ
amount_of (inst.Shift name rt rd sa) = sa
amount_of _ = 0

-- The fields of an instruction are as many bits as it has for them.
pub record HasFields (i : Inst) : Type 0 where
  pub reads : AreNumbers (read_by i)
  pub writes : AreNumbers (written_by i)
  pub immediate : immediate_of i < 2 ^ 16
  pub amount : amount_of i < 2 ^ 5
