-- States that stand in another method.
use Rattle.std.proofs.Common.{◌≡◌, ◌≢◌, ℕ, ◌+◌, ◌<◌, if◌then◌else◌, List, [], ◌∷◌, length, Some, None, ap, subst, sym, arith}
use Rattle.std.proofs.lemmas.Bool.{ne_eqb, lt-ltb}
use Rattle.run_definition.specs.Turn.{moves, ends, trap}
use Rattle.run_simulation_laws.specs.Places.{Rises, visit}
use Rattle.jvm_definition.specs.declared.value.Value.{Value}
use Rattle.jvm_definition.specs.Effect.{Workspace, frames_trap}
use Rattle.jvm_definition.specs.Step.{JvmState, Frame, frame_placed, method_called, entered_frame}
use Rattle.emit_paths_laws.specs.Classes.{place_in}

pub none-there : (m own at place : ℕ) (w : Workspace) (others : List Frame) → own ≢ m → Rises place (visit (place_in m (frame_placed own at w others)) []) (place + 1)
none-there m own at place w others differ =
    subst (λ places. Rises place places (place + 1)) (sym (ap (λ b. visit (if b then Some at else None) []) (ne_eqb own m differ))) (omega arith)

pub entered-moves : (callee : ℕ) (given : List Value) (s : JvmState) → length s.frames < 64 → method_called callee given s ≡ moves (record { fields = s.fields; heap = s.heap; frames = entered_frame callee given ∷ s.frames })
entered-moves callee given s few =
    ap (λ b. if b then moves (record { fields = s.fields; heap = s.heap; frames = entered_frame callee given ∷ s.frames }) else ends (trap frames_trap)) (lt-ltb (length s.frames) 64 few)
