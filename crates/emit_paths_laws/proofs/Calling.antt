-- Calls, seen from a method that is not the one that is called.
use Rattle.std.proofs.Common.{◌≡◌, ◌≢◌, ℕ, suc, ◌+◌, ◌<◌, List, [], ◌∷◌, length, take, slice_get, if◌then◌else◌, Option, Some, None, refl, ap, subst, ◌∙◌, arith}
use Rattle.std.proofs.lemmas.Bool.{lt-ltb}
use Rattle.run_definition.specs.Turn.{moves, ends, trap}
use Rattle.run_simulation_laws.specs.Places.{Rises, visit}
use Rattle.jvm_definition.specs.declared.value.Value.{Value}
use Rattle.jvm_definition.specs.declared.instruction.Instruction.{Instruction}
use Rattle.jvm_definition.specs.declared.instruction.Instruction.TheVariants.{Call}
use Rattle.jvm_definition.specs.Program.{Program}
use Rattle.jvm_definition.specs.Effect.{Workspace, InstructionEffect, enters, gives, frames_trap, instruction_effect}
use Rattle.jvm_definition.specs.Step.{JvmState, Frame, frame_placed, jvm_turn, jvm_turn_by, entered_frame, method_called, returned_to}
use Rattle.jvm_definition.specs.Step as machine
use Rattle.jvm_definition_laws.specs.Stretch.{body_workspace, caller_workspace}
use Rattle.emit_steps.specs.declared.step.Step.{Step}
use Rattle.emit_steps.specs.declared.step.Step.TheVariants.{Does}
use Rattle.emit_steps.specs.Widths.{bytes_before}
use Rattle.emit_steps.specs.Outcomes.{stopped}
use Rattle.emit_steps.specs.Placing.{placed_line, LiesAt}
use Rattle.emit_steps.specs.Leading.{StopsAt}
use Rattle.emit_paths_laws.specs.Classes.{place_in}
use Rattle.emit_paths_laws.specs.Paths.{step_weight, weigh, Path, PathElsewhere, waiting_behind}
use Rattle.emit_paths_laws.proofs.Joining.{paths-join, path-wider, turn-path, turn-weighs, seen-elsewhere}
use Rattle.emit_paths_laws.proofs.Weighing.{weigh-front, weigh-more, step-weighs, line-step}

entered-moves : (callee : ℕ) (given : List Value) (s : JvmState) → length s.frames < 64 → method_called callee given s ≡ moves (record { fields = s.fields; heap = s.heap; frames = entered_frame callee given ∷ s.frames })
entered-moves callee given s few =
    ap (λ b. if b then moves (record { fields = s.fields; heap = s.heap; frames = entered_frame callee given ∷ s.frames }) else ends (trap frames_trap)) (lt-ltb (length s.frames) 64 few)

returned-moves : (own at : ℕ) (result : Option Value) (caller back : Workspace) (others : List Frame) → returned_to (record { method = own; at = at; locals = caller.locals; operands = caller.operands } ∷ others) result back ≡ moves (frame_placed own at (caller_workspace result caller back) others)
returned-moves own at None caller back others = refl
returned-moves own at (Some v) caller back others = refl

pub call-enters : (program : Program) (words own at h callee : ℕ) (w caller : Workspace) (given : List Value) (others : List Frame) → LiesAt program own at (Does (Call h) ∷ []) → instruction_effect program words (Call h) w ≡ enters callee given caller → length others < 63 → jvm_turn program words (frame_placed own at w others) ≡ moves (frame_placed callee 0 (body_workspace given caller) (waiting_behind own at h caller ∷ others))
call-enters program words own at h callee w caller given others lies calls few =
    let line = placed_line at (Does (Call h)) [] in
    let room : length (waiting_behind own at h caller ∷ others) < 64 = omega arith in
    ap (machine.executed_line program words (frame_placed own at w others) (record { method = own; at = at; locals = w.locals; operands = w.operands }) others) lies.0
    ∙ ap (λ e. jvm_turn_by e own line others) calls
    ∙ entered-moves callee given (frame_placed own line.next caller others) room

pub call-gives : (program : Program) (words own at h callee start j : ℕ) (code : List Step) (v caller back : Workspace) (result : Option Value) (others : List Frame) → StopsAt program words callee start code (waiting_behind own at h caller ∷ others) j v (gives result back) → jvm_turn program words (frame_placed callee (start + bytes_before code j) v (waiting_behind own at h caller ∷ others)) ≡ moves (frame_placed own (at + 3) (caller_workspace result caller back) others)
call-gives program words own at h callee start j code v caller back result others stops =
    stops.turns ∙ returned-moves own (at + 3) result caller back others

module _ (program : Program) (words own m low high at h callee : ℕ) (body : List Step) (w caller : Workspace) (given : List Value) (others : List Frame) (lies : LiesAt program own at (Does (Call h) ∷ [])) (calls : instruction_effect program words (Call h) w ≡ enters callee given caller) (few : length others < 63) (place : Rises low (visit (place_in m (frame_placed own at w others)) []) high) where
  abbrev frames : List Frame
  frames = waiting_behind own at h caller ∷ others

  abbrev inside : JvmState
  inside = frame_placed callee 0 (body_workspace given caller) frames

  enter-path : Path program words m low high 1 (λ weight. weight (Call h)) (frame_placed own at w others) inside
  enter-path =
      turn-path program words m low high (λ weight. weight (Call h)) (frame_placed own at w others) inside
      (call-enters program words own at h callee w caller given others lies calls few)
      (λ weight still. let a = turn-weighs program own at w others inside (placed_line at (Does (Call h)) []) lies.0 weight in omega (arith, a))
      place

  module _ (n j : ℕ) (v : Workspace) (e : InstructionEffect) (goes : PathElsewhere program words callee m high 0 0 body frames inside (stopped n j v e)) where
    pub call-stops : Path program words m low high (n + 1) (λ weight. weight (Call h) + weigh weight (take j body)) (frame_placed own at w others) (frame_placed callee (bytes_before body j) v frames)
    call-stops =
        let turns : 1 + n ≡ n + 1 = omega arith in
        let start : 0 + bytes_before body j ≡ bytes_before body j = omega arith in
        let total : (Instruction → ℕ) → ℕ = λ weight. weight (Call h) + weigh weight (take j body) in
        subst (λ a. Path program words m low high (n + 1) total (frame_placed own at w others) (frame_placed callee a v frames)) start
        (subst (λ k. Path program words m low high k total (frame_placed own at w others) (frame_placed callee (0 + bytes_before body j) v frames)) turns
        (paths-join program words m low high high 1 n (λ weight. weight (Call h)) (λ weight. weigh weight (take j body)) (frame_placed own at w others) inside (frame_placed callee (0 + bytes_before body j) v frames) enter-path goes.0))

  module _ (n j : ℕ) (v back : Workspace) (result : Option Value) (differ : callee ≢ m) (body_lies : LiesAt program callee 0 body) (goes : PathElsewhere program words callee m high 0 0 body frames inside (stopped n j v (gives result back))) where
    abbrev behind : JvmState
    behind = frame_placed own (at + 3) (caller_workspace result caller back) others

    return-path : (s : Step) → slice_get body j ≡ Some s → Path program words m high high 1 (λ weight. step_weight weight s) (frame_placed callee (bytes_before body j) v frames) behind
    return-path s is =
        let start : 0 + bytes_before body j ≡ bytes_before body j = omega arith in
        let gives_back : jvm_turn program words (frame_placed callee (0 + bytes_before body j) v frames) ≡ moves behind = call-gives program words own at h callee 0 j body v caller back result others goes.1 in
        subst (λ a. Path program words m high high 1 (λ weight. step_weight weight s) (frame_placed callee a v frames) behind) start
        (turn-path program words m high high (λ weight. step_weight weight s) (frame_placed callee (0 + bytes_before body j) v frames) behind gives_back
        (step-weighs program callee j body 0 s body_lies is v frames behind)
        (seen-elsewhere program words m callee high (0 + bytes_before body j) v frames differ))

    pub call-returns : Path program words m low high (n + 2) (λ weight. weight (Call h) + weigh weight body) (frame_placed own at w others) behind
    call-returns =
        let s = line-step j body 0 goes.1.line goes.1.line_is in
        let turns : n + 1 + 1 ≡ n + 2 = omega arith in
        subst (λ k. Path program words m low high k (λ weight. weight (Call h) + weigh weight body) (frame_placed own at w others) behind) turns
        (path-wider program words m low high low high (n + 1 + 1) (λ weight. weight (Call h) + weigh weight (take j body) + step_weight weight s.0) (λ weight. weight (Call h) + weigh weight body) (frame_placed own at w others) behind (omega arith) (omega arith)
        (λ weight still. let a = weigh-more weight j body s.0 s.1 in let b = weigh-front weight (suc j) body in omega (arith, a, b))
        (paths-join program words m low high high (n + 1) 1 (λ weight. weight (Call h) + weigh weight (take j body)) (λ weight. step_weight weight s.0) (frame_placed own at w others) (frame_placed callee (bytes_before body j) v frames) behind (call-stops n j v (gives result back) goes) (return-path s.0 s.1)))
