-- Code of which all that is not reached became returns, and where a frame has to be listed.
use Rattle.std.specs.Prelude.{◌≡◌, ℕ, ◌≤◌, ◌⊎◌, Bool, false, if◌then◌else◌, Contains, Some, IsSome, ◌↔◌}
use Rattle.jvm_definition.specs.declared.return_name.ReturnName.{ReturnName}
use Rattle.jvm_definition.specs.declared.return_name.ReturnName.TheVariants as returns
use Rattle.jvm_definition.specs.declared.instruction.Instruction.TheVariants.{Return}
use Rattle.jvm_definition.specs.declared.linked_line.LinkedLine.{LinkedLine}
use Rattle.jvm_definition.specs.declared.linked_method.LinkedMethod.{LinkedMethod}
use Rattle.jvm_definition.specs.Program.{line_in, LaidFrom, instruction_targets, falls_through}
use Rattle.jvm_definition.specs.Typing.{TypeFrame, Frames, given_by, slots_of}
use Rattle.jvm_type_inference.specs.Reached.{Reached}
use Rattle.frame_maps.specs.Framed.{HasLine}

-- the return of a method that gives an int or nothing
abbrev pub return_of : Bool → ReturnName
return_of gives_int = if gives_int then returns.Ireturn else returns.Return

pub record IsPruned (method pruned : LinkedMethod) : Type 0 where
  pub laid : LaidFrom 0 pruned.lines
  -- what is reached stays where it is
  pub reached : (at : ℕ) (line : LinkedLine) → Reached method at
      → line_in method.lines at ≡ Some line → line_in pruned.lines at ≡ Some line
  -- each other instruction is a return
  pub others : (at : ℕ) (line : LinkedLine) → line_in pruned.lines at ≡ Some line
      → (Reached method at → ⊥) → line.instruction ≡ Return (return_of method.gives_int)
  pub parameters : pruned.parameters ≡ method.parameters
  pub gives_int : pruned.gives_int ≡ method.gives_int
  pub locals : pruned.locals ≡ method.locals
  pub stack : method.stack ≤ pruned.stack
  -- there is room for what a return takes that was put in
  pub room : (at : ℕ) → HasLine pruned at → (Reached method at → ⊥)
      → slots_of (given_by method.gives_int) ≤ pruned.stack

-- it is the target of a branch or a switch
abbrev pub IsTarget : LinkedMethod → ℕ → Type 0
IsTarget method at = (from : ℕ) × (line : LinkedLine) × (line_in method.lines from ≡ Some line)
    × Contains (instruction_targets line.instruction) at

-- it stands behind an instruction that does not go on to the next one
abbrev pub IsBehind : LinkedMethod → ℕ → Type 0
IsBehind method at = (from : ℕ) × (line : LinkedLine) × (line_in method.lines from ≡ Some line)
    × (falls_through line.instruction ≡ false) × (line.next ≡ at)

-- an instruction for which a frame has to be listed
abbrev pub MustList : LinkedMethod → ℕ → Type 0
MustList method at = HasLine method at × (IsTarget method at ⊎ IsBehind method at)

-- The frames that are listed for pruned code: exactly where one has to be, that of a typing at what is reached, and at a return that
-- was put in one with the operand that it takes.
pub record IsListing (method pruned : LinkedMethod) (frames listed : Frames) : Type 0 where
  pub must : (at : ℕ) → IsSome (listed at) ↔ MustList pruned at
  pub reached : (at : ℕ) (f : TypeFrame) → listed at ≡ Some f → Reached method at
      → frames at ≡ Some f
  pub put_in : (at : ℕ) (f : TypeFrame) → listed at ≡ Some f → (Reached method at → ⊥)
      → f.stack ≡ given_by method.gives_int
