-- Steps of safe states.
use Rattle.std.proofs.Common.{◌≡◌, ◌≢◌, ℕ, suc, ◌<◌, ◌≤◌, ◌==◌, nat_lt, Bool, true, false, if◌then◌else◌, List, [], ◌∷◌, ◌++◌, length, All, get_or, Option, Some, None, option_and_then, slice_get, slice_index_or, refl, sym, ap, subst, ◌∙◌, true≢false, arith}
use Rattle.std.proofs.lemmas.Bool.Decides.{nat_tests}
use Rattle.std.proofs.lemmas.Option.{slice_get-get_or}
use Rattle.run_definition.specs.Words.{signed_of, wrapped}
use Rattle.run_definition.specs.declared.call.Call.{Call}
use Rattle.run_definition.specs.Question.{Question}
use Rattle.run_definition.specs.Answer.{Answer, answered, room_place}
use Rattle.run_definition.specs.Turn.{Turn, moves, ends, leaves, asks, exit, trap}
use Rattle.jvm_definition.specs.declared.kind.Kind.{Kind}
use Rattle.jvm_definition.specs.declared.kind.Kind.TheVariants.{Top, Int, Long, Null, Ints, Pages, Text}
use Rattle.jvm_definition.specs.declared.linked_line.LinkedLine.{LinkedLine}
use Rattle.jvm_definition.specs.declared.linked_method.LinkedMethod.{LinkedMethod}
use Rattle.jvm_definition.specs.Values.{Heap, no_arrays, zero_of, conforms}
use Rattle.jvm_definition.specs.declared.value.Value.{Value}
use Rattle.jvm_definition.specs.declared.value.Value.TheVariants.{Unset as unset, Int as int}
use Rattle.jvm_definition.specs.HostMemory.{HostMemory, with_host_byte}
use Rattle.jvm_definition.specs.Program.{Program, line_in, linked_line_at, instruction_targets, falls_through, successors}
use Rattle.jvm_definition.specs.Effect.{Workspace, InstructionEffect, goes_on, jumps, enters, gives, asks_host, faults, traps, wrong, frames_trap, instruction_effect}
use Rattle.jvm_definition.specs.Step.{Frame, JvmState, field_zero, entered_frame, jvm_start, workspace_of, frame_placed, stuck, jumped, method_called, with_result, returned_to, host_question, after_host, jvm_turn_by, executed_line, turn_of, jvm_turn}
use Rattle.jvm_definition.specs.Typing.{TypeFrame, slots_of, given_by, with_stack, Frames, Receives, entry_frame, IsTyping, Typed, AllTyped, GivesAs, IsLinked}
use Rattle.jvm_definition_laws.specs.Safety.{Conform, HeapIsSafe, FieldsAreSafe, FrameIsSafe, given, gives_int_of, CallersAreSafe, FramesAreSafe, IsSafe}
use Rattle.jvm_definition_laws.proofs.KindLaws.{conforms_above, Conform-above, Conform-entry, slots_above}
use Rattle.jvm_definition_laws.proofs.HeapLaws.{Keeps, Continues, conforms_kept, Conform-kept, fields_kept, no_arrays_safe, continues_on, continues_patched}
use Rattle.jvm_definition_laws.proofs.TakingLaws.{Stands, Fits, Leaves, on, to, into, back, out, faulted, trapped}
use Rattle.jvm_definition_laws.proofs.EffectLaws.{effect_leaves}

-- ---- turns

-- a turn that goes on to safe states only, and is no step that no rule gives
abbrev pub TurnIsSafe : Program → Turn JvmState → Type 0
TurnIsSafe program (moves t) = IsSafe program t
TurnIsSafe program (ends e) = e ≢ trap 0
TurnIsSafe program (leaves q e) = e ≢ trap 0
TurnIsSafe program (asks q next) = (a : Answer) → IsSafe program (next a)

-- ---- frames

frame_safe : (program : Program) (heap : Heap) (m at : ℕ) (locals : ℕ → Value) (operands : List Value) (method : LinkedMethod) (frames : Frames) (behind : TypeFrame) → program.method m ≡ Some method → IsTyping program method frames → Receives method frames behind at → ((i : ℕ) → conforms heap (behind.locals i) (locals i) ≡ true) → Conform heap behind.stack operands → slots_of behind.stack ≤ method.stack → FrameIsSafe program heap (record { method = m; at = at; locals = locals; operands = operands })
frame_safe program heap m at locals operands method frames behind is typing r l c within = record {
  method = method;
  method_is = is;
  frames = frames;
  typing = typing;
  line = r.0;
  line_is = r.2;
  types = r.1;
  types_are = r.3;
  locals = λ i. conforms_above heap (behind.locals i) (r.1.locals i) (locals i) (r.4.locals i) (l i);
  operands = Conform-above heap behind.stack r.1.stack operands r.4.stack c;
  within = omega (arith, slots_above behind.stack r.1.stack r.4.stack);
}

frame_kept : (program : Program) (heap after : Heap) (f : Frame) → Keeps heap after → FrameIsSafe program heap f → FrameIsSafe program after f
frame_kept program heap after f keeps r = record {
  method = r.method;
  method_is = r.method_is;
  frames = r.frames;
  typing = r.typing;
  line = r.line;
  line_is = r.line_is;
  types = r.types;
  types_are = r.types_are;
  locals = λ i. conforms_kept heap after keeps (r.types.locals i) (f.locals i) (r.locals i);
  operands = Conform-kept heap after keeps r.types.stack f.operands r.operands;
  within = r.within;
}

callers_kept : (program : Program) (heap after : Heap) (gives_int : Bool) (frames : List Frame) → Keeps heap after → CallersAreSafe program heap gives_int frames → CallersAreSafe program after gives_int frames
callers_kept program heap after gives_int [] keeps h = h
callers_kept program heap after gives_int (f ∷ others) keeps h =
    (λ n. frame_kept program heap after (with_result (given gives_int n) f) keeps (h.0 n), callers_kept program heap after (gives_int_of (program.method f.method)) others keeps h.1)

entered_safe : (program : Program) (heap : Heap) (m : ℕ) (method : LinkedMethod) (arguments : List Value) → program.method m ≡ Some method → Typed program method → Conform heap method.parameters arguments → FrameIsSafe program heap (entered_frame m arguments)
entered_safe program heap m method arguments is typed c =
    frame_safe program heap m 0 (λ i. slice_index_or arguments i unset) [] method typed.0 (entry_frame method) is typed.1 (typed.1 0).entry (λ i. Conform-entry heap method.parameters arguments i c) tt (omega arith)

-- ---- where an instruction may go

pub if_all : {A : Type 0} (P : A → Type 0) (b : Bool) (x : A) (xs : List A) → All P (if b then x ∷ xs else xs) → (b ≡ true → P x) × All P xs
if_all P true x xs h = (λ e. h 0 x (omega arith), λ k d l. h (suc k) d (omega arith))
if_all P false x xs h = (λ e. absurd (true≢false (sym e)), h)

line_found : (program : Program) (m at : ℕ) (method : LinkedMethod) (line : LinkedLine) → program.method m ≡ Some method → line_in method.lines at ≡ Some line → linked_line_at program m at ≡ Some line
line_found program m at method line is there =
    ap (λ o. option_and_then (λ (method : LinkedMethod). line_in method.lines at) o) is ∙ there

-- ---- returns

result_method : (v : Option Value) (f : Frame) → f.method ≡ (with_result v f).method
result_method None f = refl
result_method (Some v) f = refl

returns : (program : Program) (before : Heap) (m : ℕ) (others : List Frame) (gives_int : Bool) (v : Option Value) (n : ℕ) (w : Workspace) → v ≡ given gives_int n → CallersAreSafe program before gives_int others → length others < 64 → Continues before w.heap → FieldsAreSafe program w.heap w.fields → TurnIsSafe program (returned_to others v w)
returns program before m [] gives_int v n w e callers few h fields = λ z. cc
returns program before m (f ∷ others) gives_int v n w e callers few h fields =
    let first = subst (λ u. FrameIsSafe program before (with_result u f)) (sym e) (callers.0 n) in
    record {
      heap = h.safe;
      fields = fields;
      frames = (frame_kept program before w.heap (with_result v f) h.keeps first, subst (λ m. CallersAreSafe program w.heap (gives_int_of (program.method m)) others) (result_method v f) (callers_kept program before w.heap (gives_int_of (program.method f.method)) others h.keeps callers.1));
      few = omega arith;
    }

-- ---- effects in a frame

module _ (program : Program) (before : Heap) (m : ℕ) (method : LinkedMethod) (frames : Frames) (line : LinkedLine) (behind : TypeFrame) (others : List Frame) (typed : AllTyped program) (is : program.method m ≡ Some method) (typing : IsTyping program method frames) (within : slots_of behind.stack ≤ method.stack) (received : All (Receives method frames behind) (successors line)) (callers : CallersAreSafe program before (gives_int_of (program.method m)) others) (few : length others < 64) where
  placed_safe : (at : ℕ) (w : Workspace) → Receives method frames behind at → Fits program before behind w → IsSafe program (frame_placed m at w others)
  placed_safe at w r h = record {
    heap = h.heap.safe;
    fields = h.fields;
    frames = (frame_safe program w.heap m at w.locals w.operands method frames behind is typing r h.locals h.operands within, callers_kept program before w.heap (gives_int_of (program.method m)) others h.heap.keeps callers);
    few = few;
  }

  next_is : falls_through line.instruction ≡ true → Receives method frames behind line.next
  next_is e = (if_all (Receives method frames behind) (falls_through line.instruction) line.next (instruction_targets line.instruction) received).0 e

  jumped_safe : (k : ℕ) (w : Workspace) → k < length (instruction_targets line.instruction) → Fits program before behind w → TurnIsSafe program (jumped m (slice_get (instruction_targets line.instruction) k) w others)
  jumped_safe k w l h =
      let targets = instruction_targets line.instruction in
      let to_all = (if_all (Receives method frames behind) (falls_through line.instruction) line.next targets received).1 in
      subst (λ target. TurnIsSafe program (jumped m target w others)) (sym (slice_get-get_or targets k 0 l)) (placed_safe (get_or targets k 0) w (to_all k 0 l) h)

  -- the frame of the call, with what the called method will give
  waiting_safe : (gives_int : Bool) (w : Workspace) (kinds : List Kind) (n : ℕ) → behind.stack ≡ given_by gives_int ++ kinds → Receives method frames behind line.next → Fits program before (with_stack behind kinds) w → FrameIsSafe program w.heap (with_result (given gives_int n) (record { method = m; at = line.next; locals = w.locals; operands = w.operands }))
  waiting_safe true w kinds n e r h =
      frame_safe program w.heap m line.next w.locals (int n ∷ w.operands) method frames behind is typing r h.locals (subst (λ stack. Conform w.heap stack (int n ∷ w.operands)) (sym e) (refl, h.operands)) within
  waiting_safe false w kinds n e r h =
      frame_safe program w.heap m line.next w.locals w.operands method frames behind is typing r h.locals (subst (λ stack. Conform w.heap stack w.operands) (sym e) h.operands) within

  called_safe : (callee : ℕ) (passed : List Value) (w : Workspace) (target : LinkedMethod) (kinds : List Kind) → program.method callee ≡ Some target → falls_through line.instruction ≡ true → behind.stack ≡ given_by target.gives_int ++ kinds → Conform before target.parameters passed → Fits program before (with_stack behind kinds) w → TurnIsSafe program (method_called callee passed (frame_placed m line.next w others))
  called_safe callee passed w target kinds there falls e c h = by_test (nat_lt (length (frame_placed m line.next w others).frames) 64) refl
    where
      state : JvmState
      state = record { fields = w.fields; heap = w.heap; frames = entered_frame callee passed ∷ (frame_placed m line.next w others).frames }

      safe : length (frame_placed m line.next w others).frames < 64 → IsSafe program state
      safe small = record {
        heap = h.heap.safe;
        fields = h.fields;
        frames = (entered_safe program w.heap callee target passed there (typed callee target there) (Conform-kept before w.heap h.heap.keeps target.parameters passed c), (λ n. subst (λ o. FrameIsSafe program w.heap (with_result (given (gives_int_of o) n) (record { method = m; at = line.next; locals = w.locals; operands = w.operands }))) (sym there) (waiting_safe target.gives_int w kinds n e (next_is falls) h), callers_kept program before w.heap (gives_int_of (program.method m)) others h.heap.keeps callers));
        few = small;
      }

      by_test : (b : Bool) → nat_lt (length (frame_placed m line.next w others).frames) 64 ≡ b → TurnIsSafe program (if b then moves state else ends (trap frames_trap))
      by_test true t = safe (grind (arith, nat_tests))
      by_test false t = λ z. cc

  host_safe : (call : Call) (readable writable : Option ℕ) (w : Workspace) (kinds : List Kind) → falls_through line.instruction ≡ true → behind.stack ≡ Int ∷ kinds → Fits program before (with_stack behind kinds) w → TurnIsSafe program (jvm_turn_by (asks_host call readable writable w) m line others)
  host_safe call readable writable w kinds falls e h =
      asked_safe (call.number == 1) (λ answer. placed_safe line.next (after_host call memory w answer) (next_is falls) (after_answer answer))
    where
      memory : HostMemory
      memory = record { heap = w.heap; readable = readable; writable = writable }

      asked_safe : (b : Bool) → ((a : Answer) → IsSafe program (frame_placed m line.next (after_host call memory w a) others)) → TurnIsSafe program (if b then leaves (host_question call memory) (exit (signed_of call.a0)) else asks (host_question call memory) (λ answer. frame_placed m line.next (after_host call memory w answer) others))
      asked_safe true k = λ z. cc
      asked_safe false k = k

      after_answer : (answer : Answer) → Fits program before behind (after_host call memory w answer)
      after_answer answer =
          let question = host_question call memory in
          let after = (answered with_host_byte memory question answer.patch).heap in
          let patched = continues_patched answer.patch memory (room_place question.room) h.heap.safe in
          record {
            heap = continues_on before w.heap after h.heap patched;
            fields = fields_kept program w.heap after w.fields patched.keeps h.fields;
            locals = λ i. conforms_kept w.heap after patched.keeps (behind.locals i) (w.locals i) (h.locals i);
            operands = subst (λ stack. Conform after stack (int (wrapped answer.value) ∷ w.operands)) (sym e) (refl, Conform-kept w.heap after patched.keeps kinds w.operands h.operands);
          }

  back_safe : (v : Option Value) (w : Workspace) (gives_int : Bool) (n : ℕ) → v ≡ given gives_int n → gives_int ≡ method.gives_int → Continues before w.heap → FieldsAreSafe program w.heap w.fields → TurnIsSafe program (returned_to others v w)
  back_safe v w gives_int n e same h fields =
      returns program before m others (gives_int_of (program.method m)) v n w (e ∙ ap (λ b. given b n) (same ∙ ap gives_int_of (sym is))) callers few h fields

  turn_by_safe : (e : InstructionEffect) → GivesAs method line.instruction → Leaves program before line.instruction behind e → TurnIsSafe program (jvm_turn_by e m line others)
  turn_by_safe (goes_on w) as_method (on falls h) = placed_safe line.next w (next_is falls) h
  turn_by_safe (jumps k w) as_method (to l h) = jumped_safe k w l h
  turn_by_safe (enters callee passed w) as_method (into target kinds there falls e c h) =
      called_safe callee passed w target kinds there falls e c h
  turn_by_safe (gives v w) as_method (back gives_int n e same h fields) =
      back_safe v w gives_int n e (same method as_method) h fields
  turn_by_safe (asks_host call readable writable w) as_method (out kinds falls e h) =
      host_safe call readable writable w kinds falls e h
  turn_by_safe (faults f) as_method faulted = λ z. cc
  turn_by_safe (traps k) as_method (trapped h) = λ z. h cc
  turn_by_safe wrong as_method h = elim h [ ]

-- ---- steps

module _ (program : Program) (words : ℕ) (typed : AllTyped program) (linked : IsLinked program) where
  frames_turn : (s : JvmState) (frames : List Frame) → HeapIsSafe s.heap → FieldsAreSafe program s.heap s.fields → FramesAreSafe program s.heap frames → length frames ≤ 64 → TurnIsSafe program (turn_of program words s frames)
  frames_turn s [] heap fields safe few = absurd safe
  frames_turn s (f ∷ others) heap fields safe few =
      let r = safe.0 in
      let rule = (r.typing f.at).rules f.at r.line r.types (omega arith) r.line_is r.types_are in
      let tops = (r.typing f.at).operands f.at r.types r.types_are in
      let stands : Stands program r.types (workspace_of s f) = record { heap = heap; fields = fields; locals = r.locals } in
      let left = effect_leaves program words r.line.instruction rule.behind r.types (workspace_of s f) stands tops (linked.fields f.method r.method f.at r.line r.method_is r.line_is) rule.fits r.operands in
      let at : linked_line_at program f.method f.at ≡ Some r.line = line_found program f.method f.at r.method r.line r.method_is r.line_is in
      subst (λ line. TurnIsSafe program (executed_line program words s f others line)) (sym at)
      (turn_by_safe program s.heap f.method r.method r.frames r.line rule.behind others typed r.method_is r.typing rule.within rule.goes_on safe.1 few (instruction_effect program words r.line.instruction (workspace_of s f)) (linked.returns f.method r.method f.at r.line r.method_is r.line_is) left)

  pub safe_turn : (s : JvmState) → IsSafe program s → TurnIsSafe program (jvm_turn program words s)
  safe_turn s safe = frames_turn s s.frames safe.heap safe.fields safe.frames safe.few

pub moved_state_safe : (program : Program) (words : ℕ) (s t : JvmState) → AllTyped program → IsLinked program → IsSafe program s → jvm_turn program words s ≡ moves t → IsSafe program t
moved_state_safe program words s t typed linked safe e = subst (TurnIsSafe program) e (safe_turn program words typed linked s safe)

pub answered_state_safe : (program : Program) (words : ℕ) (s : JvmState) (q : Question) (next : Answer → JvmState) → AllTyped program → IsLinked program → IsSafe program s → jvm_turn program words s ≡ asks q next → (a : Answer) → IsSafe program (next a)
answered_state_safe program words s q next typed linked safe e = subst (TurnIsSafe program) e (safe_turn program words typed linked s safe)

pub never_stuck : (program : Program) (words : ℕ) (s : JvmState) → AllTyped program → IsLinked program → IsSafe program s → jvm_turn program words s ≢ stuck
never_stuck program words s typed linked safe e = subst (TurnIsSafe program) e (safe_turn program words typed linked s safe) refl

-- ---- the start

zero_conforms : (heap : Heap) (kind : Kind) → conforms heap kind (zero_of kind) ≡ true
zero_conforms heap Top = refl
zero_conforms heap Int = refl
zero_conforms heap Long = refl
zero_conforms heap Null = refl
zero_conforms heap Ints = refl
zero_conforms heap Pages = refl
zero_conforms heap Text = refl

pub start_safe : (program : Program) → AllTyped program → IsLinked program → IsSafe program (jvm_start program)
start_safe program typed linked = record {
  heap = no_arrays_safe;
  fields = λ f kind e. subst (λ o. conforms no_arrays kind (field_zero o) ≡ true) (sym e) (zero_conforms no_arrays kind);
  frames = (entered_safe program no_arrays program.first linked.first [] linked.first_is (typed program.first linked.first linked.first_is) (subst (λ kinds. Conform no_arrays kinds []) (sym linked.takes_nothing) tt), ap gives_int_of linked.first_is ∙ linked.gives_nothing);
  few = omega arith;
}
