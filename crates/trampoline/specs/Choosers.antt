-- The methods that choose by the address at which the guest stands, which is in field pc. Each is the code of a whole method of no
-- arguments. Addresses are compared as signed ints, so code stands below address 80000000 (hexadecimal).
use Rattle.std.specs.Prelude.{ℕ, Bool, true, false, List, [], ◌∷◌, ◌++◌}
use Rattle.mips_definition.specs.Effect.{fetch_fault, pc_align_fault}
use Rattle.delay_slots.specs.Places.{Address}
use Rattle.jvm_definition.specs.declared.branch_name.BranchName.TheVariants.{Ifne, IfIcmplt, IfIcmpge, Goto}
use Rattle.jvm_definition.specs.declared.int_arithmetic.IntArithmetic.TheVariants.{Iand}
use Rattle.jvm_definition.specs.declared.local_kind.LocalKind.TheVariants as local_kinds
use Rattle.jvm_definition.specs.declared.instruction.Instruction.TheVariants as instructions
use Rattle.jvm_definition.specs.declared.instruction.Instruction.TheVariants.{Load, Store, Call, FaultHost}
use Rattle.emit_steps.specs.Returning.{returns}
use Rattle.emit_steps.specs.declared.step.Step.{Step}
use Rattle.emit_steps.specs.declared.step.Step.TheVariants.{Does, Skips, Leaves}
use Rattle.emit_layout.specs.FieldNumbers.{pc_field}
use Rattle.emit_instructions.specs.Access.{push_word, get_field, arithmetic}
use Rattle.meter.specs.Guards.{left_field, spent_kind}
use Rattle.trampoline.specs.declared.start.Start.{Start}
use Rattle.trampoline.specs.Trees.{reached_code, first_of, tree}

-- ---- parts. The address is kept in local variable 0.

abbrev pub load_address : Step
load_address = Does (Load local_kinds.Int 0)

-- the guest's address is put into local variable 0
abbrev pub address_code : List Step
address_code = get_field pc_field ∷ Does (Store local_kinds.Int 0) ∷ []

-- the address has one of its two low bits set: that many of the following steps are passed over
abbrev pub unaligned_code : ℕ → List Step
unaligned_code over = load_address ∷ push_word 3 ∷ arithmetic Iand ∷ Skips Ifne over ∷ []

-- the address is below another one: that many of the following steps are passed over
abbrev pub below_code : Address → ℕ → List Step
below_code bound over = load_address ∷ push_word bound ∷ Skips IfIcmplt over ∷ []

-- a method is called by the tree, and the method that chooses is begun anew
abbrev pub chosen_code : List Start → List Step
chosen_code starts = tree starts ++ Leaves 0 ∷ []

-- ---- methods

-- It returns where the address is unaligned, or is not among the addresses from first to before end; else the tree is followed.
abbrev pub within_code : Address → Address → List Step
within_code first end = unaligned_code 6 ++ below_code first 3 ++ below_code end 1 ++ returns ∷ []

-- The chooser of a class of code: as long as the guest stands at one of the class's words, that word's method is called.
abbrev pub class_chooser : List Start → Address → Address → List Step
class_chooser starts first end = address_code ++ within_code first end ++ chosen_code starts

-- where the address is unaligned or below all starts, a method is called, and the method that chooses is begun anew
abbrev pub strayed_code : Address → ℕ → List Step
strayed_code first missing = unaligned_code 3 ++ reached_code first 2
    ++ Does (Call missing) ∷ Leaves 0 ∷ []

-- The chooser of the whole program, which never returns: a method for addresses outside all code is called where the address is
-- unaligned or below all starts; else the tree is followed.
abbrev pub main_chooser : List Start → ℕ → List Step
main_chooser starts missing = address_code ++ strayed_code (first_of starts) missing
    ++ chosen_code starts

-- The method for addresses outside all code. The run ends as the guest's does there: in the fault of an unaligned pc where one of the
-- two low bits is set, and else in that of a fetch. The fault's value is the address too.
abbrev pub missing_code : List Step
missing_code =
    address_code ++ unaligned_code 2 ++ push_word fetch_fault ∷ Skips Goto 1
    ∷ push_word pc_align_fault
    ∷ load_address ∷ load_address ∷ Does FaultHost ∷ returns ∷ []

-- where no turn is left on the meter, the run ends in the fault of a spent meter, at the guest's address
abbrev pub spent_code : List Step
spent_code =
    get_field left_field ∷ push_word 1 ∷ Skips IfIcmpge 4
    ∷ push_word spent_kind ∷ get_field pc_field ∷ push_word 0 ∷ Does FaultHost ∷ []

-- The same method of a program with a meter. The turn that faults has to be left, but need not be taken off, since the run ends.
abbrev pub metered_missing_code : List Step
metered_missing_code = spent_code ++ missing_code

-- by whether the program has a meter
abbrev pub missing_method : Bool → List Step
missing_method true = metered_missing_code
missing_method false = missing_code
