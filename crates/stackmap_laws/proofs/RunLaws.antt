-- Programs that differ only where no run comes have the same runs.
use Rattle.std.proofs.Common.{◌≡◌, ℕ, zero, suc, Bool, true, false, List, [], ◌∷◌, length, refl, sym, ap, subst, ◌∙◌, Option, Some, None, arith, get_or}
use Rattle.std.specs.Prelude.{Contains, if◌then◌else◌, slice_get, nat_lt, nat_eq, option_and_then}
use Rattle.std.proofs.lemmas.Option.{same_Some, slice_get_within, get_or_from_slice_get}
use Rattle.std.proofs.lemmas.List.Elements.{All-contains}
use Rattle.run_definition.specs.declared.call.Call.{Call}
use Rattle.run_definition.specs.Question.{Question}
use Rattle.run_definition.specs.Answer.{Answer}
use Rattle.run_definition.specs.Turn.{Turn, moves, ends, leaves, asks, exit, trap}
use Rattle.run_definition.specs.Run.{Run, run_of, asking}
use Rattle.nv_events.proofs.RunLaws.{given, turned, run_of-suc}
use Rattle.jvm_definition.specs.declared.branch_name.BranchName.TheVariants.{Goto}
use Rattle.jvm_definition.specs.declared.return_name.ReturnName.TheVariants as returns
use Rattle.jvm_definition.specs.declared.kind.Kind.{Kind}
use Rattle.jvm_definition.specs.declared.kind.Kind.TheVariants as kinds
use Rattle.jvm_definition.specs.declared.instruction.Instruction.{Instruction}
use Rattle.jvm_definition.specs.declared.instruction.Instruction.TheVariants as instructions
use Rattle.jvm_definition.specs.declared.linked_line.LinkedLine.{LinkedLine}
use Rattle.jvm_definition.specs.declared.linked_method.LinkedMethod.{LinkedMethod}
use Rattle.jvm_definition.specs.declared.value.Value.{Value}
use Rattle.jvm_definition.specs.declared.value.Value.TheVariants as values
use Rattle.run_definition.specs.Words.{signed_of}
use Rattle.jvm_definition.specs.HostMemory.{HostMemory}
use Rattle.jvm_definition.specs.Values.{no_arrays}
use Rattle.jvm_definition.specs.Program.{Program, line_in, linked_line_at, instruction_targets, falls_through, successors}
use Rattle.jvm_definition.specs.Effect.{Workspace, InstructionEffect, goes_on, jumps, enters, gives, asks_host, faults, traps, wrong, popping, as_text, pushes, character, popping_int, arguments, last_first, with_operands, calls, instruction_effect, frames_trap}
use Rattle.jvm_definition.specs.Step.{Frame, JvmState, workspace_of, frame_placed, executed_line, jumped, method_called, with_result, returned_to, asked_host, jvm_turn_by, turn_of, jvm_turn, jvm_start, entered_frame, field_zero, host_question, after_host}
use Rattle.jvm_type_inference.specs.Reached.{Reached}
use Rattle.jvm_type_inference.proofs.CallLaws.{some-there}
use Rattle.stackmap_laws.specs.Alike.{IsAlike}
use Rattle.stackmap_laws.proofs.TextLaws.{is_good, AllGood, IsGoodSpace, IsGoodResult, IsGoodEffect, effect-good}

-- ---- an instruction that does not go on to the next one does not do so

abbrev Falls : Instruction → InstructionEffect → Type 0
Falls i (goes_on w) = falls_through i ≡ true
Falls i (enters m a w) = falls_through i ≡ true
Falls i (asks_host c r s w) = falls_through i ≡ true
Falls i _ = Unit {0}

falls-any : (i : Instruction) (e : InstructionEffect) → falls_through i ≡ true → Falls i e
falls-any i (goes_on w) t = t
falls-any i (jumps k w) t = tt
falls-any i (enters m a w) t = t
falls-any i (gives v w) t = tt
falls-any i (asks_host c r s w) t = t
falls-any i (faults f) t = tt
falls-any i (traps k) t = tt
falls-any i wrong t = tt

falls-popping : (i : Instruction) (operands : List Value) (f : ℕ → List Value → InstructionEffect) → ((n : ℕ) (rest : List Value) → Falls i (f n rest)) → Falls i (popping_int operands f)
falls-popping i [] f h = tt
falls-popping i (values.Unset ∷ rest) f h = tt
falls-popping i (values.Int n ∷ rest) f h = h n rest
falls-popping i (values.Long n ∷ rest) f h = tt
falls-popping i (values.Null ∷ rest) f h = tt
falls-popping i (values.Array a ∷ rest) f h = tt
falls-popping i (values.Text c s ∷ rest) f h = tt

falls : (p : Program) (words : ℕ) (i : Instruction) (w : Workspace) → Falls i (instruction_effect p words i w)
falls p words (instructions.Branch Goto target) w = tt
falls p words (instructions.TableSwitch s) w = falls-popping (instructions.TableSwitch s) w.operands _ (λ n rest. tt)
falls p words (instructions.LookupSwitch s) w = falls-popping (instructions.LookupSwitch s) w.operands _ (λ n rest. tt)
falls p words (instructions.Return returns.Ireturn) w = falls-popping (instructions.Return returns.Ireturn) w.operands _ (λ n rest. tt)
falls p words (instructions.Return returns.Return) w = tt
falls p words i w = falls-any i (instruction_effect p words i w) refl

-- ---- the same effects

calls-same : (m : ℕ) (method other : LinkedMethod) (w : Workspace) → other.parameters ≡ method.parameters → calls m (Some other) w ≡ calls m (Some method) w
calls-same m method other w e = ap (λ (kinds : List Kind). arguments w.heap (last_first kinds []) w.operands [] (λ given rest. enters m given (with_operands w rest))) e

module _ (good : ℕ → ℕ → Bool) (p q : Program) (alike : IsAlike good p q) (words : ℕ) where
  length-same : (w : Workspace) (operands : List Value) → AllGood good operands → popping operands (λ v rest. as_text v (λ class slot. pushes w (values.Int (length (q.characters class slot))) rest)) ≡ popping operands (λ v rest. as_text v (λ class slot. pushes w (values.Int (length (p.characters class slot))) rest))
  length-same w [] g = refl
  length-same w (values.Unset ∷ rest) g = refl
  length-same w (values.Int n ∷ rest) g = refl
  length-same w (values.Long n ∷ rest) g = refl
  length-same w (values.Null ∷ rest) g = refl
  length-same w (values.Array a ∷ rest) g = refl
  length-same w (values.Text class slot ∷ rest) g = ap (λ (cs : List ℕ). pushes w (values.Int (length cs)) rest) (alike.characters class slot g.0)

  abbrev char_in : Program → Workspace → ℕ → List Value → InstructionEffect
  char_in r w i rest = popping rest (λ v others. as_text v (λ class slot. character w others (slice_get (r.characters class slot) i)))

  char-at-same : (w : Workspace) (i : ℕ) (rest : List Value) → AllGood good rest → char_in q w i rest ≡ char_in p w i rest
  char-at-same w i [] g = refl
  char-at-same w i (values.Unset ∷ rest) g = refl
  char-at-same w i (values.Int n ∷ rest) g = refl
  char-at-same w i (values.Long n ∷ rest) g = refl
  char-at-same w i (values.Null ∷ rest) g = refl
  char-at-same w i (values.Array a ∷ rest) g = refl
  char-at-same w i (values.Text class slot ∷ rest) g = ap (λ (cs : List ℕ). character w rest (slice_get cs i)) (alike.characters class slot g.0)

  char-same : (w : Workspace) (operands : List Value) → AllGood good operands → popping_int operands (char_in q w) ≡ popping_int operands (char_in p w)
  char-same w [] g = refl
  char-same w (values.Unset ∷ rest) g = refl
  char-same w (values.Int n ∷ rest) g = char-at-same w n rest g.1
  char-same w (values.Long n ∷ rest) g = refl
  char-same w (values.Null ∷ rest) g = refl
  char-same w (values.Array a ∷ rest) g = refl
  char-same w (values.Text class slot ∷ rest) g = refl

  call-same : (m : ℕ) (w : Workspace) → calls m (q.method m) w ≡ calls m (p.method m) w
  call-same m w = by-case (p.method m) refl
    where
      by-case : (o : Option LinkedMethod) → p.method m ≡ o → calls m (q.method m) w ≡ calls m o w
      by-case None e = ap (λ x. calls m x w) (alike.others m e)
      by-case (Some method) e =
          let r = alike.methods m method e in
          ap (λ x. calls m x w) r.1 ∙ calls-same m method r.0 w r.2.parameters

  effect-same : (i : Instruction) (w : Workspace) → AllGood good w.operands → instruction_effect q words i w ≡ instruction_effect p words i w
  effect-same instructions.Length w g = length-same w w.operands g
  effect-same instructions.CharAt w g = char-same w w.operands g
  effect-same (instructions.Call m) w g = call-same m w
  effect-same i w g = refl

  -- ---- frames at instructions that are reached

  -- and with good values
  abbrev pub FrameReaches : Frame → Type 0
  FrameReaches f = ((method : LinkedMethod) → p.method f.method ≡ Some method → Reached method f.at) × ((i : ℕ) → is_good good (f.locals i) ≡ true) × AllGood good f.operands

  abbrev pub FramesReach : List Frame → Type 0
  FramesReach [] = Unit {0}
  FramesReach (f ∷ frames) = FrameReaches f × FramesReach frames

  -- the same turn
  line-same : (f : Frame) → FrameReaches f → linked_line_at q f.method f.at ≡ linked_line_at p f.method f.at
  line-same f reaches = by-case (p.method f.method) refl
    where
      by-case : (o : Option LinkedMethod) → p.method f.method ≡ o → linked_line_at q f.method f.at ≡ option_and_then (λ (method : LinkedMethod). line_in method.lines f.at) o
      by-case None e = ap (option_and_then (λ (method : LinkedMethod). line_in method.lines f.at)) (alike.others f.method e)
      by-case (Some method) e =
          let r = alike.methods f.method method e in
          let reached = reaches.0 method e in
          let l = some-there (line_in method.lines f.at) (alike.lined f.method method f.at e reached) in
          ap (option_and_then (λ (m : LinkedMethod). line_in m.lines f.at)) r.1 ∙ r.2.lines f.at l.0 reached l.1 ∙ sym l.1

  abbrev pub StateReaches : JvmState → Type 0
  StateReaches s = ((f : ℕ) → is_good good (s.fields f) ≡ true) × FramesReach s.frames

  executed-same : (s : JvmState) (f : Frame) (others : List Frame) (o : Option LinkedLine) → AllGood good f.operands → executed_line q words s f others o ≡ executed_line p words s f others o
  executed-same s f others None g = refl
  executed-same s f others (Some line) g = ap (λ e. jvm_turn_by e f.method line others) (effect-same line.instruction (workspace_of s f) g)

  turn-frames : (s : JvmState) (frames : List Frame) → FramesReach frames → turn_of q words s frames ≡ turn_of p words s frames
  turn-frames s [] reach = refl
  turn-frames s (f ∷ others) reach = ap (executed_line q words s f others) (line-same f reach.0) ∙ executed-same s f others (linked_line_at p f.method f.at) reach.0.2

  turn-same : (s : JvmState) → StateReaches s → jvm_turn q words s ≡ jvm_turn p words s
  turn-same s reach = turn-frames s s.frames reach.1

  -- ---- a turn leads to such frames

  abbrev TurnReaches : Turn JvmState → Type 0
  TurnReaches (moves t) = StateReaches t
  TurnReaches (asks question next) = (a : Answer) → StateReaches (next a)
  TurnReaches _ = Unit {0}

  get-in : (xs : List ℕ) (k x : ℕ) → slice_get xs k ≡ Some x → Contains xs x
  get-in xs k x e = (k, slice_get_within xs k x e, get_or_from_slice_get xs k x x e)

  module _ (m : ℕ) (method : LinkedMethod) (at : ℕ) (line : LinkedLine) (others : List Frame) (method-is : p.method m ≡ Some method) (line-is : line_in method.lines at ≡ Some line) (reached : Reached method at) (below : FramesReach others) where
    successor-reached : (to : ℕ) → Contains (successors line) to → Reached method to
    successor-reached to contains set first closed = All-contains (λ x. set x ≡ true) (successors line) to (closed at line line-is (reached set first closed)) contains

    next-reached : falls_through line.instruction ≡ true → Reached method line.next
    next-reached goes =
        let P : Bool → Type 0 = λ t. Contains (if t then line.next ∷ instruction_targets line.instruction else instruction_targets line.instruction) line.next in
        successor-reached line.next (subst P (sym goes) (0, omega arith, refl))

    target-reached : (to : ℕ) → Contains (instruction_targets line.instruction) to → Reached method to
    target-reached to contains = successor-reached to (by-test (falls_through line.instruction))
      where
        by-test : (t : Bool) → Contains (if t then line.next ∷ instruction_targets line.instruction else instruction_targets line.instruction) to
        by-test true = (suc contains.0, omega (arith, contains.1), contains.2)
        by-test false = contains

    here-reaches : (to : ℕ) (w : Workspace) → Reached method to → IsGoodSpace good w → StateReaches (frame_placed m to w others)
    here-reaches to w r g = (g.fields, (((λ other is. subst (λ x. Reached x to) (same_Some method other (sym method-is ∙ is)) r), g.locals, g.operands), below))

    get-good : (vs : List Value) (i : ℕ) → AllGood good vs → is_good good (get_or vs i values.Unset) ≡ true
    get-good [] i g = refl
    get-good (v ∷ vs) zero g = g.0
    get-good (v ∷ vs) (suc i) g = get-good vs i g.1

    start-reached : (callee : ℕ) (given : List Value) → AllGood good given → FrameReaches (entered_frame callee given)
    start-reached callee given g = ((λ other is set first closed. first), (λ i. get-good given i g), tt)

    back-reaches : (v : Option Value) (f : Frame) → IsGoodResult good v → FrameReaches f → FrameReaches (with_result v f)
    back-reaches None f g r = r
    back-reaches (Some v) f g r = (r.0, r.1, (g, r.2))

    returned-reaches : (frames : List Frame) (v : Option Value) (w : Workspace) → IsGoodResult good v → IsGoodSpace good w → FramesReach frames → TurnReaches (returned_to frames v w)
    returned-reaches [] v w g h reach = tt
    returned-reaches (f ∷ frames) v w g h reach = (h.fields, (back-reaches v f g reach.0, reach.1))

    called-reaches : (callee : ℕ) (given : List Value) (s : JvmState) → AllGood good given → StateReaches s → TurnReaches (method_called callee given s)
    called-reaches callee given s g reach = by-test (nat_lt (length s.frames) 64)
      where
        by-test : (t : Bool) → TurnReaches (if t then moves (record { fields = s.fields; heap = s.heap; frames = entered_frame callee given ∷ s.frames }) else ends (trap frames_trap))
        by-test true = (reach.0, (start-reached callee given g, reach.1))
        by-test false = tt

    jumped-reaches : (k : ℕ) (w : Workspace) → IsGoodSpace good w → TurnReaches (jumped m (slice_get (instruction_targets line.instruction) k) w others)
    jumped-reaches k w g = by-case (slice_get (instruction_targets line.instruction) k) refl
      where
        by-case : (o : Option ℕ) → slice_get (instruction_targets line.instruction) k ≡ o → TurnReaches (jumped m o w others)
        by-case None e = tt
        by-case (Some to) e = here-reaches to w (target-reached to (get-in (instruction_targets line.instruction) k to e)) g

    asked-reaches : (call : Call) (memory : HostMemory) (next : Answer → JvmState) → ((a : Answer) → StateReaches (next a)) → TurnReaches (asked_host call memory next)
    asked-reaches call memory next h = by-test (nat_eq call.number 1)
      where
        by-test : (t : Bool) → TurnReaches (if t then leaves (host_question call memory) (exit (signed_of call.a0)) else asks (host_question call memory) next)
        by-test true = tt
        by-test false = h

    by-reaches : (e : InstructionEffect) → Falls line.instruction e → IsGoodEffect good e → TurnReaches (jvm_turn_by e m line others)
    by-reaches (goes_on w) f g = here-reaches line.next w (next-reached f) g
    by-reaches (jumps k w) f g = jumped-reaches k w g
    by-reaches (enters callee given w) f g = called-reaches callee given (frame_placed m line.next w others) g.0 (here-reaches line.next w (next-reached f) g.1)
    by-reaches (gives v w) f g = returned-reaches others v w g.0 g.1 below
    by-reaches (asks_host call readable writable w) f g =
        let memory : HostMemory = record { heap = w.heap; readable = readable; writable = writable } in
        asked-reaches call memory (λ answer. frame_placed m line.next (after_host call memory w answer) others)
        (λ answer. here-reaches line.next (after_host call memory w answer) (next-reached f) (record { locals = g.locals; operands = (refl, g.operands); fields = g.fields }))
    by-reaches (faults f') f g = tt
    by-reaches (traps k) f g = tt
    by-reaches wrong f g = tt

  turn-reaches : (s : JvmState) (frames : List Frame) → ((f : ℕ) → is_good good (s.fields f) ≡ true) → FramesReach frames → TurnReaches (turn_of p words s frames)
  turn-reaches s [] fields reach = tt
  turn-reaches s (f ∷ others) fields reach = by-method (p.method f.method) refl
    where
      by-line : (method : LinkedMethod) → p.method f.method ≡ Some method → (o : Option LinkedLine) → line_in method.lines f.at ≡ o → TurnReaches (executed_line p words s f others o)
      by-line method is None e = tt
      by-line method is (Some line) e =
          let w = workspace_of s f in
          let space : IsGoodSpace good w = record { locals = reach.0.1; operands = reach.0.2; fields = fields } in
          let reached = reach.0.0 method is in
          by-reaches f.method method f.at line others is e reached reach.1 (instruction_effect p words line.instruction w) (falls p words line.instruction w) (effect-good good p words line.instruction w (alike.pushes f.method method f.at line is reached e) space)

      by-method : (o : Option LinkedMethod) → p.method f.method ≡ o → TurnReaches (executed_line p words s f others (option_and_then (λ (method : LinkedMethod). line_in method.lines f.at) o))
      by-method None e = tt
      by-method (Some method) e = by-line method e (line_in method.lines f.at) refl

  -- ---- the same runs

  given-same : {K : Type 0} (got : Option (Answer × K)) (question : Question) (next : Answer → JvmState) (s : JvmState) (k : K) (one other : JvmState → K → Run JvmState K) → ((a : Answer) → StateReaches (next a)) → ((t : JvmState) (l : K) → StateReaches t → one t l ≡ other t l) → given got question next s k one ≡ given got question next s k other
  given-same None question next s k one other reach same = refl
  given-same (Some got) question next s k one other reach same = ap (asking question) (same (next got.0) got.1 (reach got.0))

  turned-same : {K : Type 0} (reply : K → Question → Option (Answer × K)) (x : Turn JvmState) (s : JvmState) (k : K) (one other : JvmState → K → Run JvmState K) → TurnReaches x → ((t : JvmState) (l : K) → StateReaches t → one t l ≡ other t l) → turned reply x s k one ≡ turned reply x s k other
  turned-same reply (moves t) s k one other reach same = same t k reach
  turned-same reply (ends e) s k one other reach same = refl
  turned-same reply (leaves question e) s k one other reach same = refl
  turned-same reply (asks question next) s k one other reach same = given-same (reply k question) question next s k one other reach same

  pub runs-same : {K : Type 0} (reply : K → Question → Option (Answer × K)) (n : ℕ) (s : JvmState) (k : K) → StateReaches s → run_of (jvm_turn q words) reply n s k ≡ run_of (jvm_turn p words) reply n s k
  runs-same reply zero s k reach = refl
  runs-same reply (suc n) s k reach =
      run_of-suc (jvm_turn q words) reply n s k
      ∙ ap (λ x. turned reply x s k (run_of (jvm_turn q words) reply n)) (turn-same s reach)
      ∙ turned-same reply (jvm_turn p words s) s k (run_of (jvm_turn q words) reply n) (run_of (jvm_turn p words) reply n) (turn-reaches s s.frames reach.0 reach.1) (λ t l r. runs-same reply n t l r)
      ∙ sym (run_of-suc (jvm_turn p words) reply n s k)

  start-same : jvm_start q ≡ jvm_start p
  start-same = λ i. record { fields = λ f. field_zero (alike.field f i); heap = no_arrays; frames = entered_frame (alike.first i) [] ∷ [] }

  pub programs-run-alike : {K : Type 0} (reply : K → Question → Option (Answer × K)) (n : ℕ) (k : K) → run_of (jvm_turn q words) reply n (jvm_start q) k ≡ run_of (jvm_turn p words) reply n (jvm_start p) k
  programs-run-alike reply n k =
      ap (λ s. run_of (jvm_turn q words) reply n s k) start-same
      ∙ runs-same reply n (jvm_start p) k ((λ f. zero-good (p.field f)), (((λ method is set first closed. first), (λ i. refl), tt), tt))
    where
      zero-good : (o : Option Kind) → is_good good (field_zero o) ≡ true
      zero-good None = refl
      zero-good (Some kinds.Top) = refl
      zero-good (Some kinds.Int) = refl
      zero-good (Some kinds.Long) = refl
      zero-good (Some kinds.Null) = refl
      zero-good (Some kinds.Ints) = refl
      zero-good (Some kinds.Pages) = refl
      zero-good (Some kinds.Text) = refl
