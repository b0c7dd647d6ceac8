-- The types with which each step of code is entered, from the list alone.
use Rattle.std.specs.Prelude.{◌≡◌, ℕ, ◌+◌, ◌≤◌, ◌==◌, Bool, true, false, length, map, take, ◌&&◌, nat_le, List, [], ◌∷◌, ◌++◌, slice_get, Option, Some, None, All, ⊤}
use Rattle.std.specs.List.{flat_map}
use Rattle.jvm_definition.specs.declared.branch_name.BranchName.{BranchName}
use Rattle.jvm_definition.specs.declared.branch_name.BranchName.TheVariants.{Goto}
use Rattle.jvm_definition.specs.declared.instruction.Instruction.{Instruction}
use Rattle.jvm_definition.specs.declared.instruction.Instruction.TheVariants.{Branch, TableSwitch}
use Rattle.jvm_definition.specs.declared.kind.Kind.{Kind}
use Rattle.jvm_definition.specs.declared.linked_method.LinkedMethod.{LinkedMethod}
use Rattle.jvm_definition.specs.Program.{Program, instruction_targets, falls_through}
use Rattle.jvm_definition.specs.Typing.{TypeFrame, Below, branch_type, type_effect, applied, no_top, slots_of}
use Rattle.emit_steps.specs.declared.step.Step.{Step}
use Rattle.emit_steps.specs.Offsets.{CodeOffset}
use Rattle.emit_steps.specs.declared.step.Step.TheVariants.{Does, Skips, Leaves, Selects}

-- The program whose fields and methods code names, and the types that are owed at the offsets to which it leaves.
pub record Rules : Type 0 where
  pub program : Program
  pub owes : CodeOffset → Option TypeFrame
  -- at most so many operands stand below those that code knows
  pub more : ℕ

-- the most operands of a method that is emitted, where a long is two; and of code that knows all of
-- its operands
abbrev pub most_operands : ℕ
most_operands = 16

abbrev pub few_operands : ℕ
few_operands = 14

-- there is a frame, and it is above
abbrev pub Meets : TypeFrame → Option TypeFrame → Type 0
Meets f None = ⊥
Meets f (Some g) = Below f g

-- an instruction with the type of a step
abbrev pub typed_as : Step → Instruction
typed_as (Does instruction) = instruction
typed_as (Skips name k) = Branch name 0
typed_as (Leaves target) = Branch Goto 0
typed_as (Selects s) = TableSwitch s

-- the offsets to which a step goes
abbrev pub offsets_of : Step → List CodeOffset
offsets_of (Does instruction) = instruction_targets instruction
offsets_of (Skips name k) = []
offsets_of (Leaves target) = target ∷ []
offsets_of (Selects s) = instruction_targets (TableSwitch s)

-- the steps over which a branch goes are followed by one with a frame above
abbrev pub MeetsSkipped : Step → TypeFrame → List TypeFrame → Type 0
MeetsSkipped (Skips name k) f behind = Meets f (slice_get behind k)
MeetsSkipped s f behind = ⊤

-- an instruction that is no branch and no switch
abbrev pub goes_straight : Step → Bool
goes_straight (Does instruction) = length (instruction_targets instruction) == 0
goes_straight s = true

-- The rule of a step that is entered with a frame, by the frames of the steps behind it.
pub record Fits (rules : Rules) (s : Step) (f : TypeFrame) (behind : List TypeFrame) : Type 0 where
  pub straight : goes_straight s ≡ true
  pub after : TypeFrame
  pub fits : applied (type_effect rules.program (typed_as s)) f ≡ Some after
  pub within : nat_le (slots_of after.stack) (few_operands + rules.more) ≡ true
  pub next : falls_through (typed_as s) ≡ true → Meets after (slice_get behind 0)
  pub skipped : MeetsSkipped s after behind
  pub owed : All (λ at. Meets after (rules.owes at)) (offsets_of s)

-- Each step of the code has a frame, with which its rule is kept; behind the code come steps with further frames.
abbrev pub Types : Rules → List Step → List TypeFrame → List TypeFrame → Type 0
Types rules [] [] behind = ⊤
Types rules [] (f ∷ frames) behind = ⊥
Types rules (s ∷ code) [] behind = ⊥
Types rules (s ∷ code) (f ∷ frames) behind =
    (no_top f.stack ≡ true) × Fits rules s f (frames ++ behind) × Types rules code frames behind

-- Code that is entered with a frame, with other frames behind it.
pub record TypesFrom (rules : Rules) (code : List Step) (from : TypeFrame) (behind : List TypeFrame)
    : Type 0 where
  pub frames : List TypeFrame
  pub begins : Meets from (slice_get (frames ++ behind) 0)
  pub types : Types rules code frames behind

-- from one frame to another
abbrev pub Leads : Rules → List Step → TypeFrame → TypeFrame → Type 0
Leads rules code from to = TypesFrom rules code from (to ∷ [])

-- A branch takes its operands from one frame and leaves the other.
pub record IsTest (name : BranchName) (from after : TypeFrame) : Type 0 where
  pub plain : no_top from.stack ≡ true
  pub fits : applied (branch_type name) from ≡ Some after
  pub within : nat_le (slots_of after.stack) few_operands ≡ true

-- a frame has room for its operands, and each has a type
abbrev pub is_plain_frame : TypeFrame → Bool
is_plain_frame f = no_top f.stack && nat_le (slots_of f.stack) few_operands

-- A method of the program takes such operands, and gives an int or nothing.
pub record TakesGives (program : Program) (m : ℕ) (parameters : List Kind) (gives_int : Bool)
    : Type 0 where
  pub method : LinkedMethod
  pub there : program.method m ≡ Some method
  pub parameters_are : method.parameters ≡ parameters
  pub gives_are : method.gives_int ≡ gives_int

-- ---- code that leaves to other offsets

abbrev pub redirected : (ℕ → ℕ) → Step → Step
redirected to (Does instruction) = Does instruction
redirected to (Skips name k) = Skips name k
redirected to (Leaves at) = Leaves (to at)
redirected to (Selects s) = Selects s

abbrev pub is_no_switch : Step → Bool
is_no_switch (Selects s) = false
is_no_switch s = true

-- Where a frame is owed at an offset, one above is owed at the other offset.
abbrev pub Carries : (ℕ → ℕ) → Rules → Rules → Type 0
Carries to old new =
    (at : CodeOffset) (f : TypeFrame) → Meets f (old.owes at) → Meets f (new.owes (to at))

-- Code without a switch that leaves to other offsets is typed, where above what was owed is owed
-- there.
abbrev pub RedirectedCodeIsTyped : Type 0
RedirectedCodeIsTyped =
    (program : Program) (old new : ℕ → Option TypeFrame) (to : ℕ → ℕ) (code : List Step)
    (from : TypeFrame) (behind : List TypeFrame)
    → let before : Rules = record { program = program; owes = old; more = 2 } in
    let after : Rules = record { program = program; owes = new; more = 2 } in
    Carries to before after → All (λ s. is_no_switch s ≡ true) code
    → TypesFrom before code from behind
    → TypesFrom after (map (redirected to) code) from behind

-- ---- ways that join

-- A branch over code for one of its ways, which goes over the code for the other one, is typed
-- where both are.
abbrev pub EitherWayIsTyped : Type 0
EitherWayIsTyped =
    (rules : Rules) (name : BranchName) (first second : List Step) (from between to : TypeFrame)
    (k j : ℕ)
    → IsTest name from between → is_plain_frame to ≡ true
    → k ≡ length first + 1 → j ≡ length second
    → Leads rules first between to → Leads rules second between to
    → Leads rules (Skips name k ∷ (first ++ Skips Goto j ∷ second)) from to

-- ---- parts that are entered and left with one frame, one after the other

pub record PartsTyped (rules : Rules) (part : ℕ → List Step) (parts : List ℕ) (f : TypeFrame)
    (behind : List TypeFrame) : Type 0 where
  pub frames : List TypeFrame
  pub types : Types rules (flat_map part parts) frames behind
  pub begins : (n : ℕ) → n ≤ length parts
      → Meets f (slice_get (frames ++ behind) (length (flat_map part (take n parts))))
