-- Code that ends the run in a fault, and the code of traps.
use Rattle.std.specs.Prelude.{ℕ, List, [], ◌∷◌, ◌++◌}
use Rattle.mips_definition.specs.Effect.{trap_fault}
use Rattle.mips_definition.specs.declared.names.trap_name.TrapName.{TrapName}
use Rattle.mips_definition.specs.declared.names.trap_name.TrapName.TheVariants.{Tge, Tgeu, Tlt, Tltu, Teq, Tne}
use Rattle.mips_definition.specs.declared.names.trap_immediate_name.TrapImmediateName.{TrapImmediateName}
use Rattle.mips_definition.specs.declared.names.trap_immediate_name.TrapImmediateName.TheVariants.{Tgei, Tgeiu, Tlti, Tltiu, Teqi, Tnei}
use Rattle.delay_slots.specs.Places.{Address}
use Rattle.jvm_definition.specs.declared.branch_name.BranchName.{BranchName}
use Rattle.jvm_definition.specs.declared.branch_name.BranchName.TheVariants.{IfIcmpeq, IfIcmpne, IfIcmplt, IfIcmpge}
use Rattle.jvm_definition.specs.declared.instruction.Instruction.TheVariants.{FaultHost}
use Rattle.emit_steps.specs.declared.step.Step.{Step}
use Rattle.emit_steps.specs.declared.step.Step.TheVariants.{Does, Skips}
use Rattle.emit_instructions.specs.Access.{push_word, get_register, get_turned, turned}

-- the fault of a kind at an address with a value
abbrev pub fault_code : ℕ → Address → ℕ → List Step
fault_code kind at value = push_word kind ∷ push_word at ∷ push_word value ∷ Does FaultHost ∷ []

-- where the two words on the stack compare so, there is no fault; else it is that of a trap
abbrev pub unless_code : BranchName → Address → ℕ → List Step
unless_code passes at word = Skips passes 4 ∷ fault_code trap_fault at word

-- what is pushed to be compared

abbrev pub pushed_pair : ℕ → ℕ → ℕ → List Step
pushed_pair bank rs rt = get_register bank rs ∷ get_register bank rt ∷ []

abbrev pub turned_pair : ℕ → ℕ → ℕ → List Step
turned_pair bank rs rt = get_turned bank rs ++ get_turned bank rt

abbrev pub compared : ℕ → TrapName → ℕ → ℕ → List Step
compared bank Tgeu rs rt = turned_pair bank rs rt
compared bank Tltu rs rt = turned_pair bank rs rt
compared bank name rs rt = pushed_pair bank rs rt

abbrev pub compared_with : ℕ → TrapImmediateName → ℕ → ℕ → List Step
compared_with bank Tgeiu rs w = get_turned bank rs ++ push_word (turned w) ∷ []
compared_with bank Tltiu rs w = get_turned bank rs ++ push_word (turned w) ∷ []
compared_with bank name rs w = get_register bank rs ∷ push_word w ∷ []

-- the test that is passed where a trap does not fault

abbrev pub passing : TrapName → BranchName
passing Tge = IfIcmplt
passing Tgeu = IfIcmplt
passing Tlt = IfIcmpge
passing Tltu = IfIcmpge
passing Teq = IfIcmpne
passing Tne = IfIcmpeq

abbrev pub passing_immediate : TrapImmediateName → BranchName
passing_immediate Tgei = IfIcmplt
passing_immediate Tgeiu = IfIcmplt
passing_immediate Tlti = IfIcmpge
passing_immediate Tltiu = IfIcmpge
passing_immediate Teqi = IfIcmpne
passing_immediate Tnei = IfIcmpeq

abbrev pub trap_code : ℕ → TrapName → ℕ → ℕ → Address → ℕ → List Step
trap_code bank name rs rt at word = compared bank name rs rt ++ unless_code (passing name) at word

-- of rs and a word
abbrev pub trap_with_code : ℕ → TrapImmediateName → ℕ → ℕ → Address → ℕ → List Step
trap_with_code bank name rs w at word =
    compared_with bank name rs w ++ unless_code (passing_immediate name) at word
