-- Code that only compares goes to a call, to a return or to its beginning, and counts nothing; and the turns there.
use Rattle.std.proofs.Common.{◌≡◌, ℕ, suc, ◌+◌, ◌<◌, ◌≤◌, Bool, true, false, if◌then◌else◌, List, [], ◌∷◌, length, take, drop, slice_get, Option, Some, None, refl, ap, subst, ◌∙◌, arith}
use Rattle.std.proofs.lemmas.Bool.{lt-ltb}
use Rattle.run_definition.specs.Turn.{moves, ends, trap, «fault»}
use Rattle.run_definition.specs.declared.fault.Fault.{Fault}
use Rattle.jvm_definition.specs.declared.kind.Kind.{Kind}
use Rattle.jvm_definition.specs.declared.value.Value.{Value}
use Rattle.jvm_definition.specs.declared.linked_line.LinkedLine.{LinkedLine}
use Rattle.jvm_definition.specs.declared.linked_method.LinkedMethod.{LinkedMethod}
use Rattle.jvm_definition.specs.declared.instruction.Instruction.{Instruction}
use Rattle.jvm_definition.specs.declared.instruction.Instruction.TheVariants.{Call}
use Rattle.jvm_definition.specs.Program.{Program}
use Rattle.jvm_definition.specs.Values.{Heap, conforms}
use Rattle.jvm_definition.specs.Effect.{Workspace, InstructionEffect, enters, gives, faults, wrong, frames_trap, arguments, last_first, with_operands, calls, instruction_effect}
use Rattle.jvm_definition.specs.Step.{JvmState, Frame, frame_placed, jvm_turn, jvm_turn_by, method_called}
use Rattle.jvm_definition_laws.specs.Stretch.{body_workspace}
use Rattle.emit_steps.specs.declared.step.Step.{Step}
use Rattle.emit_steps.specs.declared.step.Step.TheVariants.{Does, Skips, Leaves, Selects}
use Rattle.emit_steps.specs.Widths.{bytes_before, size}
use Rattle.emit_steps.specs.Outcomes.{Outcome, left, stopped, outcome, outcome_from}
use Rattle.emit_steps.specs.Placing.{LiesAt}
use Rattle.emit_steps.specs.Leading.{StopsAt}
use Rattle.emit_paths_laws.specs.Classes.{reads, chars, switches, entries, puts}
use Rattle.emit_paths_laws.specs.Paths.{PathWithin, step_weight, weigh}
use Rattle.emit_paths_laws.proofs.Weighing.{weigh-front, weigh-back, weigh-more, line-step}
use Rattle.trampoline_laws.specs.Coming.{Stops, Calls, begins_anew}
use Rattle.trampoline_laws.specs.Weights.{SparesComparing, beside_calls, turns_of}
use Rattle.emit_program_laws.specs.Going.{Goes, Waits, with_frame}
use Rattle.emit_program_laws.specs.Standing.{HasStateOf}
use Rattle.emit_program_laws.proofs.ChoicePasses.Given.{CodeLaws}
use Rattle.emit_program_laws.proofs.ChoicePasses.Going.{Spares, Moves, Leads, moves-path, moves-on, goes-so}

-- ---- a call does not return

test-keeps : (b : Bool) (e f : InstructionEffect) → (e ≡ f → ⊥) → (wrong ≡ f → ⊥) → (if b then e else wrong) ≡ f → ⊥
test-keeps true e f never otherwise is = never is
test-keeps false e f never otherwise is = otherwise is

arguments-keep : (heap : Heap) (kinds : List Kind) (operands taken : List Value) (on : List Value → List Value → InstructionEffect) (v : Option Value) (u : Workspace) → ((given below : List Value) → on given below ≡ gives v u → ⊥) → arguments heap kinds operands taken on ≡ gives v u → ⊥
arguments-keep heap [] operands taken on v u never is = never taken operands is
arguments-keep heap (k ∷ kinds) [] taken on v u never is = cc
arguments-keep heap (k ∷ kinds) (value ∷ operands) taken on v u never is =
    test-keeps (conforms heap k value) (arguments heap kinds operands (value ∷ taken) on) (gives v u)
    (arguments-keep heap kinds operands (value ∷ taken) on v u never) (λ e. cc) is

calls-keep : (m : ℕ) (found : Option LinkedMethod) (w u : Workspace) (v : Option Value) → calls m found w ≡ gives v u → ⊥
calls-keep m None w u v is = cc
calls-keep m (Some method) w u v is =
    arguments-keep w.heap (last_first method.parameters []) w.operands [] (λ given below. enters m given (with_operands w below)) v u (λ given below e. cc) is

-- so what returns weighs the same beside calls
gives-beside : (program : Program) (words : ℕ) (weight : Instruction → ℕ) (i : Instruction) (w u : Workspace) (v : Option Value) → instruction_effect program words i w ≡ gives v u → weight i ≡ beside_calls weight i
gives-beside program words weight (Call m) w u v is = absurd (calls-keep m (program.method m) w u v is)
gives-beside program words weight _ w u v is = refl

-- ---- code

-- its steps weigh nothing beside calls, by each weight that comparing has none of
abbrev pub IsSilent : List Step → Type 0
IsSilent code = (weight : Instruction → ℕ) → SparesComparing weight → weigh (beside_calls weight) code ≡ 0

none-at-all : (n m : ℕ) → n ≤ m → m ≡ 0 → n ≡ 0
none-at-all n m less none = omega arith

-- A method is entered, above a frame that waits.
pub record Entered (program : Program) (words : ℕ) (is_span : ℕ → Bool) (own callee : ℕ) (v : Workspace) (others : List Frame) (y : JvmState) : Type 0 where
  pub waiting : Frame
  pub waits : Waits program words is_span own waiting others
  pub is_there : y ≡ frame_placed callee 0 (body_workspace [] v) (waiting ∷ others)

module _ (laws : CodeLaws) (program : Program) (words : ℕ) (is_span : ℕ → Bool) (own : ℕ) (code : List Step) (lies : LiesAt program own 0 code) (silent : IsSilent code) where
  counts-nothing : (total : (Instruction → ℕ) → ℕ) → ((weight : Instruction → ℕ) → total weight ≤ weigh (beside_calls weight) code) → Spares is_span 0 0 total
  counts-nothing total less = record {
    no_reads = none-at-all (total reads) (weigh (beside_calls reads) code) (less reads) (silent reads laws.spared.of_reads.comparing);
    no_chars = none-at-all (total chars) (weigh (beside_calls chars) code) (less chars) (silent chars laws.spared.of_chars.comparing);
    no_writes = λ f. none-at-all (total (puts f)) (weigh (beside_calls (puts f)) code) (less (puts f)) (silent (puts f) (laws.spared.of_writes f).comparing);
    few_switches = let a = less switches in let b = silent switches laws.spared.of_switches.comparing in omega (arith, a, b);
    few_entries = let a = less (entries is_span) in let b = silent (entries is_span) (laws.spared.of_entries is_span) in omega (arith, a, b);
  }

  -- the frame behind a step
  abbrev pub behind : ℕ → Workspace → Frame
  behind i v = record { method = own; at = 0 + bytes_before code (suc i); locals = v.locals; operands = v.operands }

  -- ---- to where it stops, and to its beginning

  pub stop-goes : (n i : ℕ) (w v : Workspace) (e : InstructionEffect) (others : List Frame) → outcome program words code w ≡ stopped n i v e → Moves program words is_span n 0 0 (frame_placed own 0 w others) (frame_placed own (0 + bytes_before code i) v others) × StopsAt program words own 0 code others i v e
  stop-goes n i w v e others is =
      let start = frame_placed own (0 + bytes_before code 0) w others in
      let end = frame_placed own (0 + bytes_before code i) v others in
      let total : (Instruction → ℕ) → ℕ = λ weight. weigh weight (drop 0 (take i code)) in
      let way : PathWithin program words own 0 0 code others start (stopped n i v e) = subst (λ (o : Outcome). PathWithin program words own 0 0 code others start o) is (laws.paths program words own 0 0 code w others lies) in (
        moves-path program words is_span own (0 + bytes_before code 0) (0 + bytes_before code i) n 0 0 (λ weight. total (beside_calls weight)) start end
            (laws.beside program words own own (0 + bytes_before code 0) (0 + bytes_before code i) 0 0 n total code w others end lies (ap turns_of is) way.0)
            (counts-nothing (λ weight. total (beside_calls weight)) (λ weight. weigh-front (beside_calls weight) i code)),
        way.1,
      )

  left-goes : (n k : ℕ) (u : Workspace) (others : List Frame) → outcome_from program words code k u ≡ left n 0 u → Moves program words is_span n 0 0 (frame_placed own (0 + bytes_before code k) u others) (frame_placed own 0 u others)
  left-goes n k u others is =
      let start = frame_placed own (0 + bytes_before code k) u others in
      let end = frame_placed own 0 u others in
      let total : (Instruction → ℕ) → ℕ = λ weight. weigh weight (drop k code) in
      let way : PathWithin program words own 0 k code others start (left n 0 u) = subst (λ (o : Outcome). PathWithin program words own 0 k code others start o) is (laws.paths program words own 0 k code u others lies) in
      moves-path program words is_span own (0 + bytes_before code k) (0 + size code) n 0 0 (λ weight. total (beside_calls weight)) start end
      (laws.beside program words own own (0 + bytes_before code k) (0 + size code) 0 k n total code u others end lies (ap turns_of is) way)
      (counts-nothing (λ weight. total (beside_calls weight)) (λ weight. weigh-back (beside_calls weight) k code))

  -- ---- turns at its steps

  turn-goes : (i most_entries : ℕ) (s : Step) (v : Workspace) (others : List Frame) (y : JvmState) → slice_get code i ≡ Some s → jvm_turn program words (frame_placed own (0 + bytes_before code i) v others) ≡ moves y → Spares is_span 0 most_entries (λ weight. step_weight weight s) → Moves program words is_span 1 0 most_entries (frame_placed own (0 + bytes_before code i) v others) y
  turn-goes i most_entries s v others y there is counts =
      moves-path program words is_span own (0 + bytes_before code i) (0 + bytes_before code (suc i)) 1 0 most_entries (λ weight. step_weight weight s) (frame_placed own (0 + bytes_before code i) v others) y
      (laws.turns program words own 0 i code s v others y lies there is) counts

  -- a return
  given-beside : (s : Step) (n i : ℕ) (w v u : Workspace) (result : Option Value) (weight : Instruction → ℕ) → outcome program words code w ≡ stopped n i v (gives result u) → slice_get code i ≡ Some s → step_weight weight s ≡ step_weight (beside_calls weight) s
  given-beside (Does instruction) n i w v u result weight is there =
      gives-beside program words weight instruction v u result (laws.effects program words 0 n i code instruction w v (gives result u) is there)
  given-beside (Skips name k) n i w v u result weight is there = refl
  given-beside (Leaves target) n i w v u result weight is there = refl
  given-beside (Selects s) n i w v u result weight is there = refl

  given-less : (s : Step) (n i : ℕ) (w v u : Workspace) (result : Option Value) (weight : Instruction → ℕ) → outcome program words code w ≡ stopped n i v (gives result u) → slice_get code i ≡ Some s → step_weight weight s ≤ weigh (beside_calls weight) code
  given-less s n i w v u result weight is there =
      let same = given-beside s n i w v u result weight is there in
      let a = weigh-more (beside_calls weight) i code s there in
      let b = weigh-front (beside_calls weight) (suc i) code in
      omega (arith, same, a, b)

  pub return-comes : (most : ℕ) (w v u : Workspace) (f : Frame) (others : List Frame) → Stops program words most code w v (gives None u) → Leads program words is_span (most + 1) 0 0 (λ y. y ≡ with_frame f others u.fields u.heap) (frame_placed own 0 w (f ∷ others))
  return-comes most w v u f others stops =
      let way = stop-goes stops.turns stops.step w v (gives None u) (f ∷ others) stops.comes in
      let at = line-step stops.step code 0 way.1.line way.1.line_is in
      let here = frame_placed own (0 + bytes_before code stops.step) v (f ∷ others) in
      let there = with_frame f others u.fields u.heap in
      record {
        turns = stops.turns + 1;
        in_time = omega (arith, stops.in_time);
        after = there;
        way = moves-on program words is_span stops.turns 1 0 0 0 0 (frame_placed own 0 w (f ∷ others)) here there way.0
            (turn-goes stops.step 0 at.0 v (f ∷ others) there at.1 way.1.turns
            (counts-nothing (λ weight. step_weight weight at.0) (λ weight. given-less at.0 stops.turns stops.step w v u None weight stops.comes at.1)));
        arrives = refl;
      }

  -- a fault, and fields and arrays where it comes
  pub fault-comes : (most : ℕ) (w v : Workspace) (f : Fault) (others : List Frame) → Stops program words most code w v (faults f) → Leads program words is_span most 0 0 (λ y. (jvm_turn program words y ≡ ends («fault» f)) × HasStateOf v y) (frame_placed own 0 w others)
  fault-comes most w v f others stops =
      let way = stop-goes stops.turns stops.step w v (faults f) others stops.comes in
      record {
        turns = stops.turns;
        in_time = stops.in_time;
        after = frame_placed own (0 + bytes_before code stops.step) v others;
        way = way.0;
        arrives = (way.1.turns, (refl, refl));
      }

  -- a call, behind which the method is begun anew
  waits-behind : (most few callee : ℕ) (w v : Workspace) (others : List Frame) → few ≤ 12 → v.operands ≡ [] → (c : Calls program words most code w v callee few begins_anew) → Waits program words is_span own (behind c.step v) others
  waits-behind most few callee w v others less none c = record {
    no_operands = none;
    turns_back = c.turns_behind;
    in_time = omega (arith, less, c.behind_in_time);
    back = λ fields heap.
        subst (λ (operands : List Value). Goes program words is_span c.turns_behind 0 0 (with_frame (behind c.step v) others fields heap) (frame_placed own 0 (record { locals = v.locals; operands = operands; fields = fields; heap = heap }) others)) none
        (let u : Workspace = record { locals = v.locals; operands = v.operands; fields = fields; heap = heap } in
        goes-so program words is_span c.turns_behind 0 (frame_placed own (0 + bytes_before code (suc c.step)) u others) (frame_placed own 0 u others)
        (left-goes c.turns_behind (suc c.step) u others (c.goes_on u)));
  }

  call-moves : (i callee : ℕ) (line : LinkedLine) (v : Workspace) (others : List Frame) → line.next ≡ 0 + bytes_before code (suc i) → length others < 63 → jvm_turn_by (enters callee [] v) own line others ≡ moves (frame_placed callee 0 (body_workspace [] v) (behind i v ∷ others))
  call-moves i callee line v others next few =
      let room : length (behind i v ∷ others) < 64 = omega (arith, few) in
      ap (λ a. method_called callee [] (frame_placed own a v others)) next
      ∙ ap (λ b. if b then moves (frame_placed callee 0 (body_workspace [] v) (behind i v ∷ others)) else ends (trap frames_trap)) (lt-ltb (length (behind i v ∷ others)) 64 room)

  pub call-comes : (most few callee most_entries : ℕ) (w v : Workspace) (others : List Frame) → few ≤ 12 → v.operands ≡ [] → length others < 63 → entries is_span (Call callee) ≤ most_entries → Calls program words most code w v callee few begins_anew → Leads program words is_span (most + 1) 0 most_entries (Entered program words is_span own callee v others) (frame_placed own 0 w others)
  call-comes most few callee most_entries w v others less none room enough c =
      let way = stop-goes c.turns c.step w v (enters callee [] v) others c.comes in
      let here = frame_placed own (0 + bytes_before code c.step) v others in
      let there = frame_placed callee 0 (body_workspace [] v) (behind c.step v ∷ others) in
      let entries_are : 0 + most_entries ≡ most_entries = omega arith in
      record {
        turns = c.turns + 1;
        in_time = omega (arith, c.in_time);
        after = there;
        way = subst (λ n. Moves program words is_span (c.turns + 1) 0 n (frame_placed own 0 w others) there) entries_are
            (moves-on program words is_span c.turns 1 0 0 0 most_entries (frame_placed own 0 w others) here there way.0
            (turn-goes c.step most_entries (Does (Call callee)) v others there c.step_is
            (way.1.turns ∙ call-moves c.step callee way.1.line v others way.1.next_is room)
            (record { no_reads = refl; no_chars = refl; no_writes = λ f. refl; few_switches = omega arith; few_entries = enough })));
        arrives = record { waiting = behind c.step v; waits = waits-behind most few callee w v others less none c; is_there = refl };
      }
