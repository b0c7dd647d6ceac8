-- Code of an instruction where it lies, and what the first steps of it come to.
use Rattle.std.proofs.Common.{◌≡◌, ℕ, zero, suc, ◌+◌, Bool, List, [], ◌∷◌, ◌++◌, ap, ◌∙◌, arith}
use Rattle.run_definition.specs.Words.{IsWord}
use Rattle.run_definition.specs.declared.order.Order.{Order}
use Rattle.run_definition.specs.Turn.{Turn, moves}
use Rattle.mips_definition.specs.State.{State, register, with_register}
use Rattle.mips_definition.specs.Step.{advanced}
use Rattle.mips_definition.specs.declared.inst.Inst.{Inst}
use Rattle.delay_slots.specs.Turns.{done}
use Rattle.block_builder.specs.Registers.{Register, general, read_by, written_by}
use Rattle.jvm_definition.specs.declared.int_arithmetic.IntArithmetic.TheVariants.{Iadd}
use Rattle.jvm_definition.specs.declared.value.Value.{Value}
use Rattle.jvm_definition.specs.declared.value.Value.TheVariants.{Int as int}
use Rattle.jvm_definition.specs.Effect.{Workspace, InstructionEffect, with_operands}
use Rattle.emit_steps.specs.declared.step.Step.{Step}
use Rattle.emit_steps.specs.Outcomes.{Outcome, ended, stopped, later, outcome}
use Rattle.emit_steps.specs.Placing.{LiesAt}
use Rattle.emit_instructions.specs.Access.{get_register, get_turned, push_word, get_field, arithmetic, top_bit, turned}
use Rattle.emit_instructions.specs.Units.{instruction_code}
use Rattle.emit_simulation_laws.specs.Knowing.{IsKnown, AreKnown, HasFields}
use Rattle.emit_simulation_laws.specs.Holding.{HoldsOn}
use Rattle.emit_simulation_laws.proofs.RegisterLaws.Reading.{known-word}
use Rattle.emit_simulation_laws.specs.Sites.{Site}
use Rattle.emit_instructions_laws.specs.Instructions.{InstructionFollows}
use Rattle.emit_instructions_laws.proofs.InstructionLaws.Running.{gets}
use Rattle.emit_instructions_laws.proofs.InstructionLaws.Results.{CodeFollows}

-- where code lies, and a workspace that holds the guest's state
pub record Setting : Type 0 where
  pub site : Site
  pub order : Order
  pub bank : ℕ
  pub known : ℕ → Bool
  pub at : ℕ
  pub before : Workspace
  pub state : State
  pub held : HoldsOn bank known before state

abbrev pub Lies : Setting → List Step → Type 0
Lies x code = LiesAt x.site.program x.site.method x.at code

-- the code follows a turn of the guest, and then registers have been written
abbrev pub Followed : Setting → List Register → List Step → Turn State → Type 0
Followed x written code last = CodeFollows x.site x.order x.bank x.known x.at x.before written code last

-- the code follows an instruction that puts a word into a register and does nothing else
abbrev pub Gives : Setting → List Step → ℕ → ℕ → Type 0
Gives x code d n = Followed x (general d ∷ []) code (moves (advanced (with_register x.state d n)))

-- what steps come to with these operands
abbrev pub comes : Setting → List Step → List Value → Outcome
comes x code operands = outcome x.site.program x.site.words code (with_operands x.before operands)

-- the word of a register
abbrev pub word_in : Setting → ℕ → ℕ
word_in x r = register x.state r

pub word_in-word : (x : Setting) (r : ℕ) → IsKnown x.known r → IsWord (word_in x r)
word_in-word x r is = known-word x.bank r x.known x.before x.state x.held is

-- ---- an instruction in each setting

abbrev pub InEachSetting : Inst → Type 0
InEachSetting i =
    (x : Setting)
    → HasFields i
    → Lies x (instruction_code x.bank i x.state.pc)
    → AreKnown x.known (read_by i)
    → Followed x (written_by i) (instruction_code x.bank i x.state.pc) (done i x.state)

pub by-setting : (i : Inst) → InEachSetting i → InstructionFollows i
by-setting i follows = λ site order bank known at w s ready order_is lies fields reads h.
    follows (record { site = site; order = order; bank = bank; known = known; at = at; before = w; state = s; held = h }) fields lies reads

-- ---- the first steps

-- so many instructions more were executed
abbrev pub laters : ℕ → Outcome → Outcome
laters zero o = o
laters (suc k) o = later (laters k o)

none : (n : ℕ) → n ≡ 0 + n
none n = omega arith

one-more : (k n : ℕ) → suc (k + n) ≡ suc k + n
one-more k n = omega arith

pub laters-ended : (k n : ℕ) (w : Workspace) → laters k (ended n w) ≡ ended (k + n) w
laters-ended zero n w = ap (λ m. ended m w) (none n)
laters-ended (suc k) n w = ap later (laters-ended k n w) ∙ ap (λ m. ended m w) (one-more k n)

pub laters-stopped : (k n i : ℕ) (w : Workspace) (e : InstructionEffect) → laters k (stopped n i w e) ≡ stopped (k + n) (k + i) w e
laters-stopped zero n i w e = ap (λ m. stopped m i w e) (none n) ∙ ap (λ m. stopped (0 + n) m w e) (none i)
laters-stopped (suc k) n i w e =
    ap later (laters-stopped k n i w e)
    ∙ ap (λ m. stopped m (suc (k + i)) w e) (one-more k n)
    ∙ ap (λ m. stopped (suc k + n) m w e) (one-more k i)

-- The first steps of code are so many instructions that leave all but the operands alone.
abbrev pub Leads : Setting → List Step → List Step → ℕ → List Value → Type 0
Leads x code rest k operands = comes x code x.before.operands ≡ laters k (comes x rest operands)

-- a step pushes a word
abbrev pub Pushed : Setting → Step → ℕ → Type 0
Pushed x step n =
    (code : List Step) (operands : List Value) (o : Outcome) → comes x code (int n ∷ operands) ≡ o → comes x (step ∷ code) operands ≡ later o

pub register-pushed : (x : Setting) (r : ℕ) → IsKnown x.known r → Pushed x (get_register x.bank r) (word_in x r)
register-pushed x r is = λ code operands o rest.
    gets x.site.program x.site.words x.bank x.known x.before x.state x.held r code operands o is rest

pub word-pushed : (x : Setting) (n : ℕ) → Pushed x (push_word n) n
word-pushed x n = λ code operands o rest. ap later rest

pub field-pushed : (x : Setting) (f n : ℕ) → x.before.fields f ≡ int n → Pushed x (get_field f) n
field-pushed x f n is = λ code operands o rest. ap (λ v. later (comes x code (v ∷ operands))) is ∙ ap later rest

-- a register whose top bit is turned
pub turned-pushed : (x : Setting) (r : ℕ) (code : List Step) (operands : List Value) (o : Outcome) → IsKnown x.known r
    → comes x code (int (turned (word_in x r)) ∷ operands) ≡ o → comes x (get_turned x.bank r ++ code) operands ≡ laters 3 o
turned-pushed x r code operands o is rest =
    register-pushed x r is (push_word top_bit ∷ arithmetic Iadd ∷ code) operands _ (ap (laters 2) rest)
