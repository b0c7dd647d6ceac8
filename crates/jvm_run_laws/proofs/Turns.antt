-- A turn behind other arrays is the turn without them, further on.
use Rattle.std.proofs.Common.{◌≡◌, ℕ, ◌+◌, ◌==◌, nat_lt, Bool, true, false, if◌then◌else◌, List, [], ◌∷◌, map, length, slice_get, Option, Some, None, option_map, refl, ap, ◌∙◌}
use Rattle.std.proofs.Math.ListN.{get_or-map}
use Rattle.std.proofs.lemmas.List.{length-map}
use Rattle.run_definition.specs.Words.{signed_of, wrapped}
use Rattle.run_definition.specs.declared.call.Call.{Call}
use Rattle.run_definition.specs.Question.{Question}
use Rattle.run_definition.specs.Answer.{Answer}
use Rattle.run_definition.specs.Turn.{Turn, moves, ends, leaves, asks, exit, trap, End}
use Rattle.jvm_definition.specs.declared.linked_line.LinkedLine.{LinkedLine}
use Rattle.jvm_definition.specs.declared.value.Value.{Value}
use Rattle.jvm_definition.specs.declared.value.Value.TheVariants.{Unset as unset, Int as int}
use Rattle.jvm_definition.specs.Values.{Heap}
use Rattle.jvm_definition.specs.HostMemory.{HostMemory}
use Rattle.jvm_definition.specs.Program.{Program, linked_line_at, instruction_targets}
use Rattle.jvm_definition.specs.Effect.{Workspace, InstructionEffect, goes_on, jumps, enters, gives, asks_host, faults, traps, wrong, frames_trap, instruction_effect, workspace_with_heap}
use Rattle.jvm_definition.specs.Step.{JvmState, Frame, entered_frame, workspace_of, frame_placed, jumped, method_called, returned_to, host_question, after_host, asked_host, jvm_turn_by, executed_line, turn_of, jvm_turn}
use Rattle.jvm_run_laws.specs.Relocation.{relocated_value, relocated_frame, relocated}
use Rattle.jvm_run_laws.proofs.Memories.{far_memory, same_question, far_answered}
use Rattle.jvm_run_laws.proofs.Effects.{far_values, far_workspace, far_effect, effect-far}

-- a turn whose states are seen so
abbrev pub seen_turn : {S T : Type 0} → (S → T) → Turn S → Turn T
seen_turn seen (moves s) = moves (seen s)
seen_turn seen (ends e) = ends e
seen_turn seen (leaves q e) = leaves q e
seen_turn seen (asks q next) = asks q (λ answer. seen (next answer))

module _ (below : Heap) where
  abbrev far_frames : List Frame → List Frame
  far_frames frames = map (relocated_frame below.used) frames

  -- ---- calls and returns

  pub entered-far : (m : ℕ) (given : List Value) → entered_frame m (far_values below given) ≡ relocated_frame below.used (entered_frame m given)
  entered-far m given = λ x. record {
    method = m;
    at = 0;
    locals = λ i. get_or-map (relocated_value below.used) given i unset x;
    operands = [];
  }

  jumped-far : (m : ℕ) (target : Option ℕ) (w : Workspace) (others : List Frame) → jumped m target (far_workspace below w) (far_frames others) ≡ seen_turn (relocated below) (jumped m target w others)
  jumped-far m None w others = refl
  jumped-far m (Some target) w others = refl

  enters-far : (few : Bool) (m : ℕ) (given : List Value) (s : JvmState) → (if few then moves (record { fields = (relocated below s).fields; heap = (relocated below s).heap; frames = entered_frame m (far_values below given) ∷ far_frames s.frames }) else ends (trap frames_trap)) ≡ seen_turn (relocated below) (if few then moves (record { fields = s.fields; heap = s.heap; frames = entered_frame m given ∷ s.frames }) else ends (trap frames_trap))
  enters-far true m given s =
      ap (λ (f : Frame). moves (record { fields = (relocated below s).fields; heap = (relocated below s).heap; frames = f ∷ far_frames s.frames })) (entered-far m given)
  enters-far false m given s = refl

  called-far : (m : ℕ) (given : List Value) (s : JvmState) → method_called m (far_values below given) (relocated below s) ≡ seen_turn (relocated below) (method_called m given s)
  called-far m given s =
      ap (λ n. if nat_lt n 64 then moves (record { fields = (relocated below s).fields; heap = (relocated below s).heap; frames = entered_frame m (far_values below given) ∷ far_frames s.frames }) else ends (trap frames_trap)) (length-map s.frames (relocated_frame below.used))
      ∙ enters-far (nat_lt (length s.frames) 64) m given s

  returned-far : (others : List Frame) (v : Option Value) (w : Workspace) → returned_to (far_frames others) (option_map (relocated_value below.used) v) (far_workspace below w) ≡ seen_turn (relocated below) (returned_to others v w)
  returned-far [] v w = refl
  returned-far (f ∷ others) None w = refl
  returned-far (f ∷ others) (Some v) w = refl

  -- ---- calls of the system

  asks-far : (last : Bool) (question far_question : Question) (e : End) (next far_next : Answer → JvmState) → far_question ≡ question → ((a : Answer) → far_next a ≡ relocated below (next a)) → (if last then leaves far_question e else asks far_question far_next) ≡ seen_turn (relocated below) (if last then leaves question e else asks question next)
  asks-far true question far_question e next far_next h k = ap (λ q. leaves q e) h
  asks-far false question far_question e next far_next h k = λ x. asks (h x) (λ a. k a x)

  after_host-far : (call : Call) (m : HostMemory) (w : Workspace) (answer : Answer) → after_host call (far_memory below m) (far_workspace below w) answer ≡ far_workspace below (after_host call m w answer)
  after_host-far call m w answer =
      ap (λ (m : HostMemory). workspace_with_heap (far_workspace below w) (int (wrapped answer.value) ∷ far_values below w.operands) m.heap) (far_answered below call m answer.patch)

  asked-far : (call : Call) (memory : HostMemory) (m at : ℕ) (w : Workspace) (others : List Frame) → asked_host call (far_memory below memory) (λ answer. frame_placed m at (after_host call (far_memory below memory) (far_workspace below w) answer) (far_frames others)) ≡ seen_turn (relocated below) (asked_host call memory (λ answer. frame_placed m at (after_host call memory w answer) others))
  asked-far call memory m at w others =
      asks-far (call.number == 1) (host_question call memory) (host_question call (far_memory below memory)) (exit (signed_of call.a0))
      (λ answer. frame_placed m at (after_host call memory w answer) others)
      (λ answer. frame_placed m at (after_host call (far_memory below memory) (far_workspace below w) answer) (far_frames others))
      (same_question below call memory)
      (λ answer. ap (λ (u : Workspace). frame_placed m at u (far_frames others)) (after_host-far call memory w answer))

  -- ---- a turn

  turn_by-far : (e : InstructionEffect) (m : ℕ) (line : LinkedLine) (others : List Frame) → jvm_turn_by (far_effect below e) m line (far_frames others) ≡ seen_turn (relocated below) (jvm_turn_by e m line others)
  turn_by-far (goes_on w) m line others = refl
  turn_by-far (jumps k w) m line others = jumped-far m (slice_get (instruction_targets line.instruction) k) w others
  turn_by-far (enters callee given w) m line others = called-far callee given (frame_placed m line.next w others)
  turn_by-far (gives v w) m line others = returned-far others v w
  turn_by-far (asks_host call readable writable w) m line others =
      asked-far call (record { heap = w.heap; readable = readable; writable = writable }) m line.next w others
  turn_by-far (faults f) m line others = refl
  turn_by-far (traps k) m line others = refl
  turn_by-far wrong m line others = refl

  module _ (program : Program) (words : ℕ) where
    executed-far : (s : JvmState) (f : Frame) (others : List Frame) (line : Option LinkedLine) → executed_line program (below.used + words) (relocated below s) (relocated_frame below.used f) (far_frames others) line ≡ seen_turn (relocated below) (executed_line program words s f others line)
    executed-far s f others None = refl
    executed-far s f others (Some line) =
        ap (λ e. jvm_turn_by e f.method line (far_frames others)) (effect-far below program words line.instruction (workspace_of s f))
        ∙ turn_by-far (instruction_effect program words line.instruction (workspace_of s f)) f.method line others

    turn_of-far : (s : JvmState) (frames : List Frame) → turn_of program (below.used + words) (relocated below s) (far_frames frames) ≡ seen_turn (relocated below) (turn_of program words s frames)
    turn_of-far s [] = refl
    turn_of-far s (f ∷ others) = executed-far s f others (linked_line_at program f.method f.at)

    pub turn-far : (s : JvmState) → jvm_turn program (below.used + words) (relocated below s) ≡ seen_turn (relocated below) (jvm_turn program words s)
    turn-far s = turn_of-far s s.frames
