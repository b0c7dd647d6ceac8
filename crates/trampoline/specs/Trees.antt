-- Code that calls the method to which an address belongs: a tree of comparisons over the addresses at which the methods' parts begin.
use Rattle.std.specs.Prelude.{ℕ, zero, suc, ◌+◌, ◌/◌, List, [], ◌∷◌, ◌++◌, length, take, drop}
use Rattle.delay_slots.specs.Places.{Address}
use Rattle.jvm_definition.specs.declared.branch_name.BranchName.TheVariants.{IfIcmpge, Goto}
use Rattle.jvm_definition.specs.declared.local_kind.LocalKind.TheVariants as local_kinds
use Rattle.jvm_definition.specs.declared.instruction.Instruction.TheVariants.{Load, Store, Call}
use Rattle.emit_steps.specs.declared.step.Step.{Step}
use Rattle.emit_steps.specs.declared.step.Step.TheVariants.{Does, Skips}
use Rattle.emit_instructions.specs.Access.{push_word}
use Rattle.trampoline.specs.declared.start.Start.{Start}

-- the address in local variable 0 is not below a start: that many of the following steps are passed over
abbrev pub reached_code : Address → ℕ → List Step
reached_code first over = Does (Load local_kinds.Int 0) ∷ push_word first ∷ Skips IfIcmpge over ∷ []

-- the code for the starts of both halves, of which the second one begins at an address
abbrev pub halves_code : Address → List Step → List Step → List Step
halves_code first below from = reached_code first (length below + 1) ++ below
    ++ Skips Goto (length from) ∷ from

-- where the second half begins
abbrev pub first_of : List Start → Address
first_of [] = 0
first_of (s ∷ starts) = s.first

-- The method of the last start that is not above the address is called, or the first one where all are. A tree of at most so many levels.
abbrev pub tree_of : ℕ → List Start → List Step
tree_of zero starts = []
tree_of (suc levels) [] = []
tree_of (suc levels) (s ∷ []) = Does (Call s.method) ∷ []
tree_of (suc levels) starts =
    let half = length starts / 2 in
    halves_code (first_of (drop half starts)) (tree_of levels (take half starts))
    (tree_of levels (drop half starts))

abbrev pub tree : List Start → List Step
tree starts = tree_of (length starts) starts
