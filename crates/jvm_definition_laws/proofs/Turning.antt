-- Turns of the machine where code stands: at a line of it, through stretches of it, and into a method.
use Rattle.std.proofs.Common.{◌≡◌, ℕ, suc, ◌+◌, ◌<◌, if◌then◌else◌, List, ◌∷◌, length, Some, option_and_then, ap, sym, ◌∙◌, refl, arith}
use Rattle.std.proofs.lemmas.Bool.{lt-ltb}
use Rattle.run_definition.specs.Turn.{Turn, ends, moves, trap}
use Rattle.jvm_definition.specs.declared.value.Value.{Value}
use Rattle.jvm_definition.specs.declared.linked_line.LinkedLine.{LinkedLine}
use Rattle.jvm_definition.specs.Program.{Program, line_in}
use Rattle.jvm_definition.specs.Effect.{Workspace, instruction_effect, enters, frames_trap}
use Rattle.jvm_definition.specs.Step.{JvmState, Frame, frame_placed, jvm_turn, jvm_turn_by, executed_line}
use Rattle.jvm_definition_laws.specs.Stretch.{Point, StandsAt, moved_line, stretch, advanced, body_workspace}
use Rattle.jvm_definition_laws.proofs.Moving.{effect-moved}
use Rattle.jvm_definition_laws.proofs.Stretches.{line-stands, stretch-stands, stretch-add, advanced-add}

pub turn-at-line : (program : Program) (words m by at : ℕ) (lines : List LinkedLine) (line : LinkedLine) (w : Workspace) (others : List Frame) → StandsAt program m by lines → line_in lines at ≡ Some line → jvm_turn program words (frame_placed m (by + at) w others) ≡ jvm_turn_by (instruction_effect program words line.instruction w) m (moved_line by line) others
turn-at-line program words m by at lines line w others stands is =
    ap (executed_line program words (frame_placed m (by + at) w others) (record { method = m; at = by + at; locals = w.locals; operands = w.operands }) others) (line-stands program m by at lines line stands is)
    ∙ ap (λ e. jvm_turn_by e m (moved_line by line) others) (effect-moved program words by line.instruction w)

-- a stretch from its start, where it stands
pub stretch-starts : (program : Program) (words m by n : ℕ) (lines : List LinkedLine) (w : Workspace) (others : List Frame) (p : Point) → StandsAt program m by lines → stretch program words lines n 0 w ≡ Some p → advanced (jvm_turn program words) n (frame_placed m by w others) ≡ Some (frame_placed m (by + p.at) p.workspace others)
stretch-starts program words m by n lines w others p stands is =
    let e : by + 0 ≡ by = omega arith in
    ap (λ a. advanced (jvm_turn program words) n (frame_placed m a w others)) (sym e)
    ∙ stretch-stands program words m by lines others stands n 0 w p is

-- stretches, one after the other
pub then-stretch : (program : Program) (words n k at : ℕ) (lines : List LinkedLine) (w : Workspace) (p q : Point) → stretch program words lines n at w ≡ Some p → stretch program words lines k p.at p.workspace ≡ Some q → stretch program words lines (n + k) at w ≡ Some q
then-stretch program words n k at lines w p q first second =
    stretch-add program words lines n k at w
    ∙ ap (option_and_then (λ (p : Point). stretch program words lines k p.at p.workspace)) first
    ∙ second

-- turns that only move, one after the other
pub then-advanced : (program : Program) (words n k : ℕ) (x y z : JvmState) → advanced (jvm_turn program words) n x ≡ Some y → advanced (jvm_turn program words) k y ≡ Some z → advanced (jvm_turn program words) (n + k) x ≡ Some z
then-advanced program words n k x y z first second =
    advanced-add (jvm_turn program words) n k x ∙ ap (option_and_then (advanced (jvm_turn program words) k)) first ∙ second

one-turn : {S : Type 0} (turn : S → Turn S) (s t : S) → turn s ≡ moves t → advanced turn 1 s ≡ Some t
one-turn turn s t is = rw (is, advanced) refl

-- a call leads into the method
pub enters-method : (program : Program) (words m by at callee : ℕ) (lines : List LinkedLine) (line : LinkedLine) (w caller : Workspace) (given : List Value) (others : List Frame) → StandsAt program m by lines → line_in lines at ≡ Some line → instruction_effect program words line.instruction w ≡ enters callee given caller → length others < 63 → advanced (jvm_turn program words) 1 (frame_placed m (by + at) w others) ≡ Some (frame_placed callee 0 (body_workspace given caller) (record { method = m; at = by + line.next; locals = caller.locals; operands = caller.operands } ∷ others))
enters-method program words m by at callee lines line w caller given others stands is calls few =
    let room : suc (length others) < 64 = omega arith in
    let waiting : Frame = record { method = m; at = by + line.next; locals = caller.locals; operands = caller.operands } in
    one-turn (jvm_turn program words) (frame_placed m (by + at) w others) (frame_placed callee 0 (body_workspace given caller) (waiting ∷ others))
    (turn-at-line program words m by at lines line w others stands is
    ∙ ap (λ e. jvm_turn_by e m (moved_line by line) others) calls
    ∙ ap (λ b. if b then moves (frame_placed callee 0 (body_workspace given caller) (waiting ∷ others)) else ends (trap frames_trap)) (lt-ltb (suc (length others)) 64 room))
