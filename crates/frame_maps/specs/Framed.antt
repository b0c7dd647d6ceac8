-- JVM Specification, Java SE 7 edition, 4.10.1: when a method's code is typed by the frames that its StackMapTable lists.
use Rattle.std.specs.Prelude.{◌≡◌, ℕ, false, All, Some, None, IsSome}
use Rattle.jvm_definition.specs.declared.linked_line.LinkedLine.{LinkedLine}
use Rattle.jvm_definition.specs.declared.linked_method.LinkedMethod.{LinkedMethod}
use Rattle.jvm_definition.specs.Program.{Program, line_in, instruction_targets, falls_through}
use Rattle.jvm_definition.specs.Typing.{TypeFrame, Frames, type_effect, applied, IsTyping, entry_frame}

-- the offset has an instruction
abbrev pub HasLine : LinkedMethod → ℕ → Type 0
HasLine method at = IsSome (line_in method.lines at)

-- A typing of all instructions that is given by the frames that are listed for some of them: a frame is listed where a branch or a
-- switch may lead to, and behind each instruction that does not go on to the next one.
pub record IsFramedBy (program : Program) (method : LinkedMethod) (listed frames : Frames)
    : Type 0 where
  pub typing : IsTyping program method frames
  -- each instruction has a frame
  pub each : (at : ℕ) (line : LinkedLine) → line_in method.lines at ≡ Some line
      → IsSome (frames at)
  -- each frame that is listed is that of an instruction
  pub lists : (at : ℕ) (f : TypeFrame) → listed at ≡ Some f
      → HasLine method at × (frames at ≡ Some f)
  pub targets : (at : ℕ) (line : LinkedLine) → line_in method.lines at ≡ Some line
      → All (λ to. IsSome (listed to)) (instruction_targets line.instruction)
  pub behind : (at : ℕ) (line : LinkedLine) → line_in method.lines at ≡ Some line
      → falls_through line.instruction ≡ false → HasLine method line.next
      → IsSome (listed line.next)
  -- any other instruction has the frame that the one before it leaves
  pub follows : (at : ℕ) (line : LinkedLine) (f b : TypeFrame)
      → line_in method.lines at ≡ Some line → frames at ≡ Some f
      → applied (type_effect program line.instruction) f ≡ Some b → HasLine method line.next
      → listed line.next ≡ None → frames line.next ≡ Some b
  -- and the first one that of the method's start
  pub start : listed 0 ≡ None → frames 0 ≡ Some (entry_frame method)

-- a method is typed by the frames that are listed
abbrev pub Framed : Program → LinkedMethod → Frames → Type 0
Framed program method listed = (frames : Frames) × IsFramedBy program method listed frames
