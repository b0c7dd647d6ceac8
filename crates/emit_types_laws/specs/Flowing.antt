-- A test of code that computes the frames, step by step. It is for code whose branches meet with frames of which the first one is above.
use Rattle.std.specs.Prelude.{ℕ, zero, suc, Bool, true, false, ◌==◌, nat_le, if◌then◌else◌, List, [], ◌∷◌, length, slice_get, Option, Some, None, All, ⊤}
use Rattle.jvm_definition.specs.declared.instruction.Instruction.TheVariants.{TableSwitch}
use Rattle.jvm_definition.specs.Program.{instruction_targets, falls_through, is_goto}
use Rattle.jvm_definition.specs.Typing.{TypeFrame, Below, type_effect, branch_type, applied, slots_of}
use Rattle.emit_steps.specs.declared.step.Step.{Step}
use Rattle.emit_steps.specs.declared.step.Step.TheVariants.{Does, Skips, Leaves, Selects}
use Rattle.emit_types_laws.specs.Judging.{Rules, Meets, few_operands, is_plain_frame}

-- the frames with which branches came to the steps ahead, if one came
abbrev pub Ahead : Type 0
Ahead = List (Option TypeFrame)

abbrev pub When : Bool → Type 0 → Type 0
When true T = T
When false T = ⊥

-- there is a frame, with room for its operands
abbrev pub Behind : Option TypeFrame → (TypeFrame → Type 0) → Type 0
Behind None Rest = ⊥
Behind (Some f) Rest = When (nat_le (slots_of f.stack) few_operands) (Rest f)

-- the frame with which a step is entered, from the step before and from branches
abbrev pub Entering : Option TypeFrame → Ahead → (TypeFrame → Ahead → Type 0) → Type 0
Entering None [] Rest = ⊥
Entering None (None ∷ ahead) Rest = ⊥
Entering None (Some f ∷ ahead) Rest = Rest f ahead
Entering (Some f) [] Rest = Rest f []
Entering (Some f) (None ∷ ahead) Rest = Rest f ahead
Entering (Some f) (Some g ∷ ahead) Rest = Below f g × Rest g ahead

-- a branch comes over so many of the steps ahead
abbrev pub Arriving : ℕ → TypeFrame → Ahead → (Ahead → Type 0) → Type 0
Arriving zero f [] Rest = Rest (Some f ∷ [])
Arriving zero f (None ∷ ahead) Rest = Rest (Some f ∷ ahead)
Arriving zero f (Some g ∷ ahead) Rest = Below f g × Rest (Some g ∷ ahead)
Arriving (suc k) f [] Rest = Arriving k f [] (λ others. Rest (None ∷ others))
Arriving (suc k) f (g ∷ ahead) Rest = Arriving k f ahead (λ others. Rest (g ∷ others))

-- a step that is entered with a frame, and what is left to do with the frame behind it
abbrev pub FlowsOver : Rules → Step → TypeFrame → Ahead → (Option TypeFrame → Ahead → Type 0)
    → Type 0
FlowsOver rules (Does instruction) f ahead Rest =
    Behind (applied (type_effect rules.program instruction) f) (λ g.
    When (length (instruction_targets instruction) == 0)
    (Rest (if falls_through instruction then Some g else None) ahead))
FlowsOver rules (Skips name k) f ahead Rest =
    Behind (applied (branch_type name) f) (λ g.
    Arriving k g ahead (Rest (if is_goto name then None else Some g)))
FlowsOver rules (Leaves target) f ahead Rest =
    Meets f (rules.owes target) × Rest None ahead
FlowsOver rules (Selects s) f ahead Rest =
    Behind (applied (type_effect rules.program (TableSwitch s)) f) (λ g.
    All (λ at. Meets g (rules.owes at)) (instruction_targets (TableSwitch s)) × Rest None ahead)

-- frames that come to the end of the code, and those of the steps behind it
abbrev pub Reaches : Option TypeFrame → List TypeFrame → Type 0
Reaches None behind = ⊤
Reaches (Some f) behind = Meets f (slice_get behind 0)

abbrev pub AllMeet : Ahead → List TypeFrame → Type 0
AllMeet [] behind = ⊤
AllMeet (None ∷ ahead) [] = AllMeet ahead []
AllMeet (None ∷ ahead) (g ∷ behind) = AllMeet ahead behind
AllMeet (Some f ∷ ahead) [] = ⊥
AllMeet (Some f ∷ ahead) (g ∷ behind) = Below f g × AllMeet ahead behind

abbrev pub Flows : Rules → List Step → List TypeFrame → Option TypeFrame → Ahead → Type 0
Flows rules [] behind current ahead = Reaches current behind × AllMeet ahead behind
Flows rules (s ∷ code) behind current ahead =
    Entering current ahead (λ f others.
    When (is_plain_frame f)
    (FlowsOver rules s f others (Flows rules code behind)))

-- code that is entered with a frame
abbrev pub FlowsFrom : Rules → List Step → TypeFrame → List TypeFrame → Type 0
FlowsFrom rules code from behind = Flows rules code behind (Some from) []
