-- Code of a method as paths that are seen from another method, up to the frame of its caller.
use Rattle.std.proofs.Common.{◌≡◌, ◌≢◌, ℕ, suc, ◌+◌, ◌≤◌, List, ◌∷◌, take, drop, None, subst, arith}
use Rattle.jvm_definition.specs.declared.instruction.Instruction.{Instruction}
use Rattle.jvm_definition.specs.Program.{Program}
use Rattle.jvm_definition.specs.Values.{Heap}
use Rattle.jvm_definition.specs.Effect.{Workspace, gives}
use Rattle.jvm_definition.specs.Step.{JvmState, Frame, frame_placed}
use Rattle.emit_steps.specs.declared.step.Step.{Step}
use Rattle.emit_steps.specs.Widths.{bytes_before}
use Rattle.emit_steps.specs.Outcomes.{left, stopped, outcome_from}
use Rattle.emit_steps.specs.Placing.{LiesAt}
use Rattle.emit_paths_laws.specs.Laws.{CodeIsPathElsewhere}
use Rattle.emit_paths_laws.specs.Paths.{step_weight, weigh, Path, PathElsewhere}
use Rattle.emit_paths_laws.proofs.Joining.{paths-join, path-wider, turn-path, seen-elsewhere}
use Rattle.emit_paths_laws.proofs.Weighing.{weigh-back, weigh-front, weigh-more, step-weighs, line-step}

-- back in the caller's frame
abbrev pub back_in : Workspace → Heap → Frame → List Frame → JvmState
back_in w heap caller others = record { fields = w.fields; heap = heap; frames = caller ∷ others }

module _ (paths : CodeIsPathElsewhere) (program : Program) (words own m at : ℕ) (differ : own ≢ m) (code : List Step) (lies : LiesAt program own at code) (k : ℕ) (w : Workspace) (others : List Frame) where
  abbrev begin : JvmState
  begin = frame_placed own (at + bytes_before code k) w others

  weighs : (i : ℕ) (weight : Instruction → ℕ) → weigh weight (drop k (take i code)) ≤ weigh weight (take i code)
  weighs i weight = weigh-back weight k (take i code)

  goes : (low : ℕ) → PathElsewhere program words own m low at k code others begin (outcome_from program words code k w)
  goes low = paths program words own m low at k code w others differ lies

  -- it leaves to an offset of the method
  pub leaves-path : (n target : ℕ) (v : Workspace) → outcome_from program words code k w ≡ left n target v → (low : ℕ) → Path program words m low low n (λ weight. weigh weight code) begin (frame_placed own target v others)
  leaves-path n target v is low =
      let way : PathElsewhere program words own m low at k code others begin (left n target v) = subst (λ o. PathElsewhere program words own m low at k code others begin o) is (goes low) in
      path-wider program words m low low low low n (λ weight. weigh weight (drop k code)) (λ weight. weigh weight code) begin (frame_placed own target v others) (omega arith) (omega arith) (λ weight still. weigh-back weight k code) way

-- it returns
pub returns-path : (paths : CodeIsPathElsewhere) (program : Program) (words own m at : ℕ) → own ≢ m → (code : List Step) → LiesAt program own at code → (k : ℕ) (w : Workspace) (caller : Frame) (others : List Frame) (n i : ℕ) (v back : Workspace) → outcome_from program words code k w ≡ stopped n i v (gives None back) → (low : ℕ) → Path program words m low low (n + 1) (λ weight. weigh weight code) (frame_placed own (at + bytes_before code k) w (caller ∷ others)) (back_in back back.heap caller others)
returns-path paths program words own m at differ code lies k w caller others n i v back is low =
    let frames = caller ∷ others in
    let begin = frame_placed own (at + bytes_before code k) w frames in
    let stop = frame_placed own (at + bytes_before code i) v frames in
    let end = back_in back back.heap caller others in
    let way : PathElsewhere program words own m low at k code frames begin (stopped n i v (gives None back)) = subst (λ o. PathElsewhere program words own m low at k code frames begin o) is (goes paths program words own m at differ code lies k w frames low) in
    let s = line-step i code at way.1.line way.1.line_is in
    let last : Path program words m low low 1 (λ weight. step_weight weight s.0) stop end =
    turn-path program words m low low (λ weight. step_weight weight s.0) stop end way.1.turns (step-weighs program own i code at s.0 lies s.1 v frames end) (seen-elsewhere program words m own low (at + bytes_before code i) v frames differ) in
    path-wider program words m low low low low (n + 1) (λ weight. weigh weight (drop k (take i code)) + step_weight weight s.0) (λ weight. weigh weight code) begin end (omega arith) (omega arith)
    (λ weight still. let a = weigh-more weight i code s.0 s.1 in let b = weigh-front weight (suc i) code in let d = weigh-back weight k (take i code) in omega (arith, a, b, d))
    (paths-join program words m low low low n 1 (λ weight. weigh weight (drop k (take i code))) (λ weight. step_weight weight s.0) begin stop end way.0 last)
