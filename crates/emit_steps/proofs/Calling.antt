-- A call and its return.
use Rattle.std.proofs.Common.{◌≡◌, ℕ, suc, ◌+◌, ◌<◌, List, ◌∷◌, length, if◌then◌else◌, Option, Some, None, option_and_then, refl, ap, subst, ◌∙◌, arith}
use Rattle.std.proofs.lemmas.Bool.{lt-ltb}
use Rattle.run_definition.specs.Turn.{moves, ends, trap}
use Rattle.jvm_definition.specs.declared.value.Value.{Value}
use Rattle.jvm_definition.specs.Program.{Program}
use Rattle.jvm_definition.specs.Effect.{Workspace, frames_trap}
use Rattle.jvm_definition.specs.Step.{JvmState, Frame, frame_placed, jvm_turn, entered_frame, method_called, returned_to}
use Rattle.jvm_definition_laws.specs.Stretch.{advanced, body_workspace, caller_workspace}
use Rattle.jvm_definition_laws.proofs.Stretches.{advanced-add}
use Rattle.emit_steps.specs.Widths.{bytes_before}
use Rattle.emit_steps.specs.Leading.{LeadsTo, Returns}
use Rattle.emit_steps.specs.Laws.{CallsLeadBehind}
use Rattle.emit_steps.proofs.Lying.{one-more, code-leads}

called-moves : (callee : ℕ) (given : List Value) (s : JvmState) → length s.frames < 64 → method_called callee given s ≡ moves (record { fields = s.fields; heap = s.heap; frames = entered_frame callee given ∷ s.frames })
called-moves callee given s few =
    ap (λ b. if b then moves (record { fields = s.fields; heap = s.heap; frames = entered_frame callee given ∷ s.frames }) else ends (trap frames_trap)) (lt-ltb (length s.frames) 64 few)

result-placed : (m at : ℕ) (result : Option Value) (caller back : Workspace) (others : List Frame) → returned_to (record { method = m; at = at; locals = caller.locals; operands = caller.operands } ∷ others) result back ≡ moves (frame_placed m at (caller_workspace result caller back) others)
result-placed m at None caller back others = refl
result-placed m at (Some v) caller back others = refl

-- the body of a called method, begun above the caller
body-returns : (program : Program) (words callee n : ℕ) (given : List Value) (caller back : Workspace) (result : Option Value) (frames : List Frame) → Returns program words callee given caller n result back → (x : JvmState) × (advanced (jvm_turn program words) n (frame_placed callee 0 (body_workspace given caller) frames) ≡ Some x) × (jvm_turn program words x ≡ returned_to frames result back)
body-returns program words callee n given caller back result frames r =
    let leads = subst (LeadsTo program words callee 0 r.body frames (frame_placed callee 0 (body_workspace given caller) frames)) r.returns (code-leads program words callee frames r.body 0 0 (body_workspace given caller) r.lies) in
    (frame_placed callee (0 + bytes_before r.body r.at) r.before frames, leads.0, leads.1.turns)

pub calls-return : CallsLeadBehind
calls-return program words m at i callee n code w caller back given result others s r few =
    let step = jvm_turn program words in
    let waiting : Frame = record { method = m; at = s.line.next; locals = caller.locals; operands = caller.operands } in
    let start = frame_placed m (at + bytes_before code i) w others in
    let inside = frame_placed callee 0 (body_workspace given caller) (waiting ∷ others) in
    let after = frame_placed m (at + bytes_before code (suc i)) (caller_workspace result caller back) others in
    let room : length (waiting ∷ others) < 64 = omega arith in
    let first : step start ≡ moves inside = s.turns ∙ called-moves callee given (frame_placed m s.line.next caller others) room in
    let body = body-returns program words callee n given caller back result (waiting ∷ others) r in
    let last : step body.0 ≡ moves after = body.2 ∙ result-placed m s.line.next result caller back others ∙ ap (λ a. moves (frame_placed m a (caller_workspace result caller back) others)) s.next_is in
    let e : n + 2 ≡ suc (n + 1) = omega arith in
    ap (λ k. advanced step k start) e
    ∙ one-more step (n + 1) start inside first
    ∙ advanced-add step n 1 inside
    ∙ ap (option_and_then (advanced step 1)) body.1
    ∙ one-more step 0 body.0 after last
