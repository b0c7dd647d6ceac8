-- A call above a frame is the call without it.
use Rattle.std.proofs.Common.{◌≡◌, ℕ, ◌==◌, Bool, true, false, if◌then◌else◌, List, [], ◌∷◌, ◌++◌, length, Option, Some, None, refl, sym, ◌∙◌, slice_get}
use Rattle.std.proofs.lemmas.Bool.{false≢true}
use Rattle.std.specs.Prelude.{nat_lt}
use Rattle.run_definition.specs.Answer.{Answer}
use Rattle.run_definition.specs.Question.{Question}
use Rattle.run_definition.specs.Turn.{Turn, moves, ends, leaves, asks, End, exit, trap}
use Rattle.run_definition.specs.Words.{signed_of}
use Rattle.jvm_definition.specs.declared.linked_line.LinkedLine.{LinkedLine}
use Rattle.jvm_definition.specs.declared.value.Value.{Value}
use Rattle.jvm_definition.specs.Program.{Program, linked_line_at}
use Rattle.jvm_definition.specs.Effect.{InstructionEffect, Workspace, asks_host, enters, faults, frames_trap, gives, goes_on, instruction_effect, jumps, traps, wrong}
use Rattle.jvm_definition.specs.Program.{instruction_targets}
use Rattle.jvm_definition.specs.Step.{Frame, JvmState, after_host, executed_line, frame_placed, host_question, jumped, jvm_turn, jvm_turn_by, returned_to, turn_of, workspace_of}
use Rattle.jvm_run_laws.specs.Below.{above}
use Rattle.emit_calls_laws.specs.Calls.{MakeSameCall, makes_call}

-- ---- calls that are the same

pub same-flipped : {S T : Type 0} (x : Turn S) (y : Turn T) → MakeSameCall x y → MakeSameCall y x
same-flipped (leaves q e) (leaves r f) same = (sym same.0, sym same.1)
same-flipped (asks q next) (asks r later) same = sym same
same-flipped _ _ same = absurd same

pub same-through : {S T U : Type 0} (x : Turn S) (y : Turn T) (z : Turn U) → MakeSameCall x y → MakeSameCall y z → MakeSameCall x z
same-through (leaves q e) (leaves r f) (leaves s h) first second = (second.0 ∙ first.0, second.1 ∙ first.1)
same-through (asks q next) (asks r later) (asks s last) first second = second ∙ first
same-through (moves a) _ _ first second = absurd first
same-through (ends a) _ _ first second = absurd first
same-through (leaves q e) (leaves r f) (moves c) first second = absurd second
same-through (leaves q e) (leaves r f) (ends c) first second = absurd second
same-through (leaves q e) (leaves r f) (asks c d) first second = absurd second
same-through (asks q next) (asks r later) (moves c) first second = absurd second
same-through (asks q next) (asks r later) (ends c) first second = absurd second
same-through (asks q next) (asks r later) (leaves c d) first second = absurd second
same-through (leaves q e) _ _ first second = absurd first
same-through (asks q next) _ _ first second = absurd first

-- ---- with another frame below all others

no-call : (A : Type 0) (x : Turn JvmState) → makes_call x ≡ false → makes_call x ≡ true → A
no-call A x none is = absurd (false≢true (sym none ∙ is))

jumped-none : (m : ℕ) (target : Option ℕ) (w : Workspace) (others : List Frame) → makes_call (jumped m target w others) ≡ false
jumped-none m None w others = refl
jumped-none m (Some target) w others = refl

either-none : (b : Bool) (s : JvmState) (e : End) → makes_call (if b then moves s else ends e) ≡ false
either-none true s e = refl
either-none false s e = refl

returned-none : (others : List Frame) (v : Option Value) (w : Workspace) → makes_call (returned_to others v w) ≡ false
returned-none [] v w = refl
returned-none (f ∷ others) v w = refl

asked-same : (b : Bool) (q : Question) (e : End) (next other : Answer → JvmState) → MakeSameCall (if b then leaves q e else asks q next) (if b then leaves q e else asks q other)
asked-same true q e next other = (refl, refl)
asked-same false q e next other = refl

module _ (program : Program) (words : ℕ) (below : Frame) where
  by-effect : (e : InstructionEffect) (m : ℕ) (line : LinkedLine) (others : List Frame) → makes_call (jvm_turn_by e m line others) ≡ true → MakeSameCall (jvm_turn_by e m line others) (jvm_turn_by e m line (others ++ below ∷ []))
  by-effect (goes_on w) m line others is = absurd (false≢true is)
  by-effect (jumps k w) m line others is = no-call _ (jvm_turn_by (jumps k w) m line others) (jumped-none m (slice_get (instruction_targets line.instruction) k) w others) is
  by-effect (enters callee given w) m line others is = no-call _ (jvm_turn_by (enters callee given w) m line others) (either-none (nat_lt (length (frame_placed m line.next w others).frames) 64) _ (trap frames_trap)) is
  by-effect (gives v w) m line others is = no-call _ (jvm_turn_by (gives v w) m line others) (returned-none others v w) is
  by-effect (asks_host call readable writable w) m line others is =
      asked-same (call.number == 1) (host_question call (record { heap = w.heap; readable = readable; writable = writable })) (exit (signed_of call.a0))
      (λ answer. frame_placed m line.next (after_host call (record { heap = w.heap; readable = readable; writable = writable }) w answer) others)
      (λ answer. frame_placed m line.next (after_host call (record { heap = w.heap; readable = readable; writable = writable }) w answer) (others ++ below ∷ []))
  by-effect (faults f) m line others is = absurd (false≢true is)
  by-effect (traps k) m line others is = absurd (false≢true is)
  by-effect wrong m line others is = absurd (false≢true is)

  by-line : (s : JvmState) (f : Frame) (others : List Frame) (line : Option LinkedLine) → makes_call (executed_line program words s f others line) ≡ true → MakeSameCall (executed_line program words s f others line) (executed_line program words (above below s) f (others ++ below ∷ []) line)
  by-line s f others None is = absurd (false≢true is)
  by-line s f others (Some line) is = by-effect (instruction_effect program words line.instruction (workspace_of s f)) f.method line others is

  by-frames : (s : JvmState) (frames : List Frame) → makes_call (turn_of program words s frames) ≡ true → MakeSameCall (turn_of program words s frames) (turn_of program words (above below s) (frames ++ below ∷ []))
  by-frames s [] is = absurd (false≢true is)
  by-frames s (f ∷ others) is = by-line s f others (linked_line_at program f.method f.at) is

  pub call-above : (s : JvmState) → makes_call (jvm_turn program words s) ≡ true → MakeSameCall (jvm_turn program words s) (jvm_turn program words (above below s))
  call-above s is = by-frames s s.frames is
