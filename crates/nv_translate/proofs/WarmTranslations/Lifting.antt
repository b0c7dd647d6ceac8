-- Turns do the same above other frames, up to where the lowest frame returns.
use Rattle.std.proofs.Common.{◌≡◌, ℕ, zero, suc, Bool, true, false, if◌then◌else◌, nat_lt, ◌==◌, List, [], ◌∷◌, ◌++◌, length, slice_get, Option, Some, None, refl, ap, sym, subst, ◌∙◌}
use Rattle.std.proofs.lemmas.Bool.{true≢false}
use Rattle.run_definition.specs.Turn.{Turn, moves, ends, leaves, asks, End, «fault», trap}
use Rattle.run_simulation_laws.specs.Trail.{advanced}
use Rattle.jvm_definition.specs.declared.linked_line.LinkedLine.{LinkedLine}
use Rattle.jvm_definition.specs.declared.value.Value.{Value}
use Rattle.jvm_definition.specs.Program.{Program, linked_line_at, instruction_targets}
use Rattle.jvm_definition.specs.Effect.{Workspace, InstructionEffect, goes_on, jumps, enters, gives, asks_host, faults, traps, wrong, instruction_effect, frames_trap}
use Rattle.jvm_definition.specs.Step as machine
use Rattle.jvm_definition.specs.Step.{JvmState, Frame, frame_placed, jvm_turn, jvm_turn_by, turn_of, jumped, method_called, returned_to, with_result, asked_host, workspace_of}
use Rattle.nv_translate.proofs.WarmTranslations.Staying.{moves-to, next-is}

-- a state with more frames below its own
abbrev pub lifted : List Frame → JvmState → JvmState
lifted others s = record { fields = s.fields; heap = s.heap; frames = s.frames ++ others }

-- ---- turns that move

module _ (others : List Frame) where
  abbrev IsLifted : JvmState → JvmState → Type 0
  IsLifted t u = u ≡ lifted others t

  placed-lifts : (m at : ℕ) (w : Workspace) (own : List Frame) (t u : JvmState) → moves (frame_placed m at w own) ≡ moves t
      → moves (frame_placed m at w (own ++ others)) ≡ moves u
      → IsLifted t u
  placed-lifts m at w own t u is also =
      sym (moves-to (frame_placed m at w (own ++ others)) u also) ∙ ap (lifted others) (moves-to (frame_placed m at w own) t is)

  jumped-lifts : (m : ℕ) (target : Option ℕ) (w : Workspace) (own : List Frame) (t u : JvmState) → jumped m target w own ≡ moves t
      → jumped m target w (own ++ others) ≡ moves u → IsLifted t u
  jumped-lifts m None w own t u is also = absurd cc
  jumped-lifts m (Some at) w own t u is also = placed-lifts m at w own t u is also

  called-lifts : (callee : ℕ) (given : List Value) (s t u : JvmState) (few fewer : Bool)
      → (if few then moves (record { fields = s.fields; heap = s.heap; frames = machine.entered_frame callee given ∷ s.frames }) else ends
      (trap frames_trap)) ≡ moves t
      → (if fewer then moves (record { fields = s.fields; heap = s.heap; frames = machine.entered_frame callee given ∷ (s.frames ++ others) }) else ends
      (trap frames_trap)) ≡ moves u
      → IsLifted t u
  called-lifts callee given s t u false fewer is also = absurd cc
  called-lifts callee given s t u true false is also = absurd cc
  called-lifts callee given s t u true true is also =
      let after : JvmState = record { fields = s.fields; heap = s.heap; frames = machine.entered_frame callee given ∷ s.frames } in
      sym (moves-to (lifted others after) u also) ∙ ap (lifted others) (moves-to after t is)

  returned-lifts : (v : Option Value) (w : Workspace) (own : List Frame) (t u : JvmState) → returned_to own v w ≡ moves t
      → returned_to (own ++ others) v w ≡ moves u
      → IsLifted t u
  returned-lifts v w [] t u is also = absurd cc
  returned-lifts v w (g ∷ own) t u is also =
      let after : JvmState = record { fields = w.fields; heap = w.heap; frames = with_result v g ∷ own } in
      sym (moves-to (lifted others after) u also) ∙ ap (lifted others) (moves-to after t is)

  asked-stays : (b : Bool) (x y : Turn JvmState) (t : JvmState) → (x ≡ moves t → ⊥) → (y ≡ moves t → ⊥) → (if b then x else y) ≡ moves t → ⊥
  asked-stays true x y t first second is = first is
  asked-stays false x y t first second is = second is

  effect-lifts : (e : InstructionEffect) (m : ℕ) (line : LinkedLine) (own : List Frame) (t u : JvmState) → jvm_turn_by e m line own ≡ moves t
      → jvm_turn_by e m line (own ++ others) ≡ moves u → IsLifted t u
  effect-lifts (goes_on w) m line own t u is also = placed-lifts m line.next w own t u is also
  effect-lifts (jumps k w) m line own t u is also = jumped-lifts m (slice_get (instruction_targets line.instruction) k) w own t u is also
  effect-lifts (enters callee given w) m line own t u is also =
      called-lifts callee given (frame_placed m line.next w own) t u (nat_lt (length (frame_placed m line.next w own).frames) 64)
      (nat_lt (length (frame_placed m line.next w (own ++ others)).frames) 64) is also
  effect-lifts (gives v w) m line own t u is also = returned-lifts v w own t u is also
  effect-lifts (asks_host call readable writable w) m line own t u is also =
      absurd (asked-stays (call.number == 1) (leaves _ _) (asks _ _) t (λ e. cc) (λ e. cc) is)
  effect-lifts (faults f) m line own t u is also = absurd cc
  effect-lifts (traps k) m line own t u is also = absurd cc
  effect-lifts wrong m line own t u is also = absurd cc

-- ---- turns that end the run in a fault, or call the system

abbrev is_fault : End → Bool
is_fault («fault» f) = true
is_fault _ = false

abbrev pub is_outer : Turn JvmState → Bool
is_outer (moves t) = false
is_outer (ends e) = is_fault e
is_outer (leaves q e) = true
is_outer (asks q next) = true

asked-outer : (b : Bool) (x y : Turn JvmState) → is_outer x ≡ true → is_outer y ≡ true → is_outer (if b then x else y) ≡ true
asked-outer true x y first second = first
asked-outer false x y first second = second

jumped-inner : (m : ℕ) (target : Option ℕ) (w : Workspace) (own : List Frame) → is_outer (jumped m target w own) ≡ false
jumped-inner m None w own = refl
jumped-inner m (Some at) w own = refl

called-inner : (b : Bool) (s : JvmState) (k : ℕ) → is_outer (if b then moves s else ends (trap k)) ≡ false
called-inner true s k = refl
called-inner false s k = refl

returned-inner : (own : List Frame) (v : Option Value) (w : Workspace) → is_outer (returned_to own v w) ≡ false
returned-inner [] v w = refl
returned-inner (f ∷ own) v w = refl

outer-lifts : (e : InstructionEffect) (m : ℕ) (line : LinkedLine) (own more : List Frame) → is_outer (jvm_turn_by e m line own) ≡ true
    → is_outer (jvm_turn_by e m line more) ≡ true
outer-lifts (goes_on w) m line own more is = absurd (true≢false (sym is))
outer-lifts (jumps k w) m line own more is = absurd (true≢false (sym is ∙ jumped-inner m (slice_get (instruction_targets line.instruction) k) w own))
outer-lifts (enters callee given w) m line own more is =
    absurd (true≢false (sym is ∙ called-inner (nat_lt (length (frame_placed m line.next w own).frames) 64) _ _))
outer-lifts (gives v w) m line own more is = absurd (true≢false (sym is ∙ returned-inner own v w))
outer-lifts (asks_host call readable writable w) m line own more is = asked-outer (call.number == 1) (leaves _ _) (asks _ _) refl refl
outer-lifts (faults f) m line own more is = refl
outer-lifts (traps k) m line own more is = absurd (true≢false (sym is))
outer-lifts wrong m line own more is = absurd (true≢false (sym is))

-- ---- a program's turns

module _ (program : Program) (words : ℕ) (others : List Frame) where
  abbrev step : JvmState → Turn JvmState
  step = jvm_turn program words

  line-lifts : (s : JvmState) (f : Frame) (own : List Frame) (line : Option LinkedLine) (t u : JvmState)
      → machine.executed_line program words s f own line ≡ moves t
      → machine.executed_line program words s f (own ++ others) line ≡ moves u → u ≡ lifted others t
  line-lifts s f own None t u is also = absurd cc
  line-lifts s f own (Some line) t u is also =
      effect-lifts others (instruction_effect program words line.instruction (workspace_of s f)) f.method line own t u is also

  frames-lift : (s : JvmState) (frames : List Frame) (t u : JvmState) → turn_of program words s frames ≡ moves t
      → turn_of program words s (frames ++ others) ≡ moves u
      → u ≡ lifted others t
  frames-lift s [] t u is also = absurd cc
  frames-lift s (f ∷ own) t u is also = line-lifts s f own (linked_line_at program f.method f.at) t u is also

  turn-lifts : (s t u : JvmState) → step s ≡ moves t → step (lifted others s) ≡ moves u → u ≡ lifted others t
  turn-lifts s t u is also = frames-lift s s.frames t u is also

  line-outer : (s : JvmState) (f : Frame) (own more : List Frame) (line : Option LinkedLine)
      → is_outer (machine.executed_line program words s f own line) ≡ true
      → is_outer (machine.executed_line program words s f more line) ≡ true
  line-outer s f own more None is = absurd (true≢false (sym is))
  line-outer s f own more (Some line) is = outer-lifts (instruction_effect program words line.instruction (workspace_of s f)) f.method line own more is

  frames-outer : (s : JvmState) (frames : List Frame) → is_outer (turn_of program words s frames) ≡ true
      → is_outer (turn_of program words s (frames ++ others)) ≡ true
  frames-outer s [] is = absurd (true≢false (sym is))
  frames-outer s (f ∷ own) is = line-outer s f own (own ++ others) (linked_line_at program f.method f.at) is

  pub turn-outer : (s : JvmState) → is_outer (step s) ≡ true → is_outer (step (lifted others s)) ≡ true
  turn-outer s is = frames-outer s s.frames is

  -- so many turns
  pub turns-lift : (n : ℕ) (s t u : JvmState) → advanced step n s ≡ Some t → advanced step n (lifted others s) ≡ Some u → u ≡ lifted others t
  turns-lift zero s t u is also =
      let same : s ≡ t = cc in let above : lifted others s ≡ u = cc in sym above ∙ ap (lifted others) same
  turns-lift (suc n) s t u is also =
      let next = next-is program words n s t is in
      let above = next-is program words n (lifted others s) u also in
      let same = turn-lifts s next.0 above.0 next.1 above.1 in
      turns-lift n next.0 t u next.2 (subst (λ (z : JvmState). advanced step n z ≡ Some u) same above.2)
