-- Code with a call of a helper method in it follows by what the method comes to.
use Rattle.std.proofs.Common.{◌≡◌, ◌≢◌, ℕ, suc, ◌+◌, ◌<◌, ◌⊎◌, List, [], ◌∷◌, ◌++◌, length, slice_get, take, drop, Option, Some, IsTrue, refl, subst, sym, ◌∙◌, arith}
use Rattle.run_definition.specs.declared.order.Order.{Order}
use Rattle.run_definition.specs.Turn.{Turn, ends, «fault»}
use Rattle.run_definition.specs.declared.fault.Fault.{Fault}
use Rattle.jvm_definition.specs.declared.value.Value.{Value}
use Rattle.jvm_definition.specs.declared.instruction.Instruction.{Instruction}
use Rattle.jvm_definition.specs.declared.instruction.Instruction.TheVariants.{Call}
use Rattle.jvm_definition.specs.Values.{Heap}
use Rattle.jvm_definition.specs.Effect.{Workspace, enters, faults, instruction_effect}
use Rattle.jvm_definition.specs.Step.{JvmState, Frame, frame_placed}
use Rattle.jvm_definition_laws.specs.Stretch.{body_workspace, caller_workspace}
use Rattle.emit_steps.specs.declared.step.Step.{Step}
use Rattle.emit_steps.specs.declared.step.Step.TheVariants.{Does}
use Rattle.emit_steps.specs.Widths.{bytes_before, size}
use Rattle.emit_steps.specs.Outcomes.{outcome, ended, stopped, stays_within}
use Rattle.emit_steps.specs.Placing.{LiesAt}
use Rattle.emit_steps.specs.Leading.{StopsAt}
use Rattle.emit_steps.specs.Laws.{PartsLie}
use Rattle.emit_paths_laws.specs.Paths.{Path, PathElsewhere, step_weight, weigh, waiting_behind}
use Rattle.emit_paths_laws.specs.Laws.{CodeIsPath, CodeIsPathElsewhere, TurnsAtStepsElsewhere, EntersCode, CallsArePaths, CallsThatStop}
use Rattle.emit_paths_laws.proofs.Joining.{paths-join, path-wider}
use Rattle.emit_paths_laws.proofs.Weighing.{weigh-front, weigh-more, line-step}
use Rattle.mem_helpers.specs.Methods.{helper_code}
use Rattle.emit_simulation_laws.specs.Outcomes.{Gives, CallsFault}
use Rattle.emit_simulation_laws.specs.Helpers.{IsHelper}
use Rattle.emit_simulation_laws.specs.Sites.{Site, stands, whole_weight, helper_weight, PathIn}
use Rattle.emit_simulation_laws.specs.Following.{ComesToEnd, ComesToTurn}
use Rattle.emit_simulation_laws.proofs.GuestFollows.Ends.{Ends}
use Rattle.emit_simulation_laws.proofs.GuestFollows.Weights.{weigh-whole, whole-both, size-both, fault-within}
use Rattle.emit_simulation_laws.proofs.GuestFollows.Elsewhere.{none-there, entered-moves}
use Rattle.emit_simulation_laws.proofs.GuestFollows.Outcomes.{here, goes, code-ends}

module _ (is_path : CodeIsPath) (parts_lie : PartsLie) (site : Site) (order : Order) (at n h : ℕ) (front back : List Step) (w v caller : Workspace) (given : List Value) (within : IsTrue (stays_within front)) (lies : LiesAt site.program site.method at (front ++ Does (Call h) ∷ back)) (helper : IsHelper site.program order h) (differ : h ≢ site.method) (front_is : outcome site.program site.words front w ≡ ended n v) (calls : instruction_effect site.program site.words (Call h) v ≡ enters h given caller) where
  abbrev code : List Step
  code = front ++ Does (Call h) ∷ back

  abbrev call_at : ℕ
  call_at = at + size front

  parts : LiesAt site.program site.method at front × LiesAt site.program site.method call_at (Does (Call h) ∷ back)
  parts = parts_lie site.program site.method at front (Does (Call h) ∷ back) within lies

  call-lies : LiesAt site.program site.method call_at (Does (Call h) ∷ [])
  call-lies = (parts.1.0, tt)

  enters-helper : length site.others < 63
      → EntersCode site.program site.words site.method site.method call_at h h v given caller (helper_code order h) site.others
  enters-helper few = record {
    lies = call-lies;
    calls = calls;
    apart = differ;
    body_lies = helper.lies;
    room = few;
  }

  -- the code before the call
  front-path : PathIn site at call_at n (whole_weight order front) (stands site at w) (stands site call_at v)
  front-path =
      let come = code-ends is_path site order at front parts.0 0 0 n n w v (λ u. u ≡ v) front_is (omega arith) (omega arith) refl in
      subst (λ a. PathIn site a call_at n (whole_weight order front) (stands site a w) (stands site call_at v)) (here at)
      (path-wider site.program site.words site.method (at + 0) call_at (at + 0) call_at n (λ weight. weigh weight (drop 0 front)) (whole_weight order front) (stands site (at + 0) w) (stands site call_at v) (omega arith) (omega arith)
      (λ weight still. let b = weigh-whole order weight front in omega (arith, b))
      (goes is_path site order at front parts.0 0 w (ended n v) front_is))

  whole : (weight : Instruction → ℕ) → whole_weight order code weight ≡ whole_weight order front weight + (weight (Call h) + helper_weight order weight h + whole_weight order back weight)
  whole weight = whole-both order weight front (Does (Call h) ∷ back)

  module _ (calls_return : CallsArePaths) (most later : ℕ) (result : Option Value) (Leaves : (ℕ → Value) → Heap → Type 0) (Arrives : Workspace → Type 0) (few : length site.others < 63) (method_gives : Gives site.program site.words most (helper_code order h) given caller result Leaves) (goes_on : (left : Workspace) → Leaves left.fields left.heap → Ends site.program site.words later back (caller_workspace result caller left) Arrives) where
    abbrev behind : Workspace
    behind = caller_workspace result caller method_gives.back

    last : Ends site.program site.words later back behind Arrives
    last = goes_on method_gives.back method_gives.leaves

    call-path : PathIn site call_at (call_at + 3) (method_gives.turns + 2) (λ weight. weight (Call h) + weigh weight (helper_code order h)) (stands site call_at v) (stands site (call_at + 3) behind)
    call-path = calls_return site.program site.words site.method call_at h h method_gives.turns method_gives.step (helper_code order h) v caller method_gives.at method_gives.back given result site.others (enters-helper few) method_gives.comes

    back-path : PathIn site (call_at + 3) (call_at + 3 + size back) last.turns (whole_weight order back) (stands site (call_at + 3) behind) (stands site (call_at + 3 + size back) last.after)
    back-path =
        subst (λ a. PathIn site a (call_at + 3 + size back) last.turns (whole_weight order back) (stands site a behind) (stands site (call_at + 3 + size back) last.after)) (here (call_at + 3))
        (path-wider site.program site.words site.method (call_at + 3 + 0) (call_at + 3 + size back) (call_at + 3 + 0) (call_at + 3 + size back) last.turns (λ weight. weigh weight (drop 0 back)) (whole_weight order back) (stands site (call_at + 3 + 0) behind) (stands site (call_at + 3 + size back) last.after) (omega arith) (omega arith)
        (λ weight still. let b = weigh-whole order weight back in omega (arith, b))
        (goes is_path site order (call_at + 3) back parts.1.1 0 behind (ended last.turns last.after) last.comes))

    all-path : PathIn site at (call_at + 3 + size back) (n + (method_gives.turns + 2) + last.turns) (whole_weight order code) (stands site at w) (stands site (call_at + 3 + size back) last.after)
    all-path =
        path-wider site.program site.words site.method at (call_at + 3 + size back) at (call_at + 3 + size back) (n + (method_gives.turns + 2) + last.turns) (λ weight. whole_weight order front weight + (weight (Call h) + weigh weight (helper_code order h)) + whole_weight order back weight) (whole_weight order code) (stands site at w) (stands site (call_at + 3 + size back) last.after) (omega arith) (omega arith)
        (λ weight still. let b = whole weight in omega (arith, b))
        (paths-join site.program site.words site.method at (call_at + 3) (call_at + 3 + size back) (n + (method_gives.turns + 2)) last.turns (λ weight. whole_weight order front weight + (weight (Call h) + weigh weight (helper_code order h))) (whole_weight order back) (stands site at w) (stands site (call_at + 3) behind) (stands site (call_at + 3 + size back) last.after)
        (paths-join site.program site.words site.method at call_at (call_at + 3) n (method_gives.turns + 2) (whole_weight order front) (λ weight. weight (Call h) + weigh weight (helper_code order h)) (stands site at w) (stands site call_at v) (stands site (call_at + 3) behind) front-path call-path)
        back-path)

    pub call-ends : ComesToEnd site at (at + size code) 1 (n + (most + 2) + later) (whole_weight order code) Arrives (stands site at w)
    call-ends =
        let split = size-both front (Does (Call h) ∷ back) in
        let end : call_at + 3 + size back ≡ at + size code = omega (arith, split) in
        let a = method_gives.in_time in
        let b = last.in_time in
        subst (λ high. ComesToEnd site at high 1 (n + (most + 2) + later) (whole_weight order code) Arrives (stands site at w)) end
        (record {
          turns = n + (method_gives.turns + 2) + last.turns;
          after = last.after;
          path = all-path;
          no_sooner = omega arith;
          in_time = omega (arith, a, b);
          arrives = last.arrives;
        })

  module _ (elsewhere : CodeIsPathElsewhere) (calls_stop : CallsThatStop) (steps_turn : TurnsAtStepsElsewhere) (most g : ℕ) (ending : Fault) (Last : ℕ → ℕ → Turn JvmState → Type 0) (other : IsHelper site.program order g) (apart : g ≢ site.method) (few : length site.others < 62) (is_fault : (g ≡ 18) ⊎ (g ≡ 19)) (stops : CallsFault site.program site.words most (helper_code order) (helper_code order h) given caller g ending) (last : (used place : ℕ) → Last used place (ends («fault» ending))) where
    abbrev body : List Step
    body = helper_code order h

    abbrev frames : List Frame
    frames = waiting_behind site.method call_at h caller ∷ site.others

    -- up to the call in the helper
    first : Path site.program site.words site.method call_at (call_at + 1) (stops.turns + 1) (λ weight. weight (Call h) + weigh weight (take stops.step body)) (stands site call_at v) (frame_placed h (bytes_before body stops.step) stops.at frames) × StopsAt site.program site.words h 0 body frames stops.step stops.at (enters g stops.arguments stops.waiting)
    first = calls_stop site.program site.words site.method call_at h h stops.turns stops.step body v caller stops.at given site.others (enters g stops.arguments stops.waiting) (enters-helper (omega arith)) stops.comes

    -- the frames above which the run ends
    abbrev deeper : List Frame
    deeper = record { method = h; at = first.1.line.next; locals = stops.waiting.locals; operands = stops.waiting.operands } ∷ frames

    abbrev inside : JvmState
    inside = frame_placed g 0 (body_workspace stops.arguments stops.waiting) deeper

    calling : (s : Step) × (slice_get body stops.step ≡ Some s)
    calling = line-step stops.step body 0 first.1.line first.1.line_is

    enter-path : PathIn site (call_at + 1) (call_at + 1) 1 (λ weight. step_weight weight calling.0) (frame_placed h (bytes_before body stops.step) stops.at frames) inside
    enter-path =
        let start : 0 + bytes_before body stops.step ≡ bytes_before body stops.step = omega arith in
        let room : length deeper < 64 = omega arith in
        subst (λ a. PathIn site (call_at + 1) (call_at + 1) 1 (λ weight. step_weight weight calling.0) (frame_placed h a stops.at frames) inside) start
        (steps_turn site.program site.words h site.method (call_at + 1) 0 stops.step body calling.0 stops.at frames inside differ helper.lies calling.1
        (first.1.turns ∙ entered-moves g stops.arguments (frame_placed h first.1.line.next stops.waiting frames) room))

    ending-path : PathElsewhere site.program site.words g site.method (call_at + 1) 0 0 (helper_code order g) deeper (frame_placed g (0 + bytes_before (helper_code order g) 0) (body_workspace stops.arguments stops.waiting) deeper) (stopped stops.ends.turns stops.ends.step stops.ends.at (faults ending))
    ending-path =
        subst (PathElsewhere site.program site.words g site.method (call_at + 1) 0 0 (helper_code order g) deeper (frame_placed g (0 + bytes_before (helper_code order g) 0) (body_workspace stops.arguments stops.waiting) deeper)) stops.ends.comes
        (elsewhere site.program site.words g site.method (call_at + 1) 0 0 (helper_code order g) (body_workspace stops.arguments stops.waiting) deeper apart other.lies)

    abbrev final : JvmState
    final = frame_placed g (0 + bytes_before (helper_code order g) stops.ends.step) stops.ends.at deeper

    stop-path : PathIn site at (call_at + 1) (n + (stops.turns + 1) + 1 + stops.ends.turns) (whole_weight order code) (stands site at w) final
    stop-path =
        path-wider site.program site.words site.method at (call_at + 1) at (call_at + 1) (n + (stops.turns + 1) + 1 + stops.ends.turns) (λ weight. whole_weight order front weight + (weight (Call h) + weigh weight (take stops.step body)) + step_weight weight calling.0 + weigh weight (drop 0 (take stops.ends.step (helper_code order g)))) (whole_weight order code) (stands site at w) final (omega arith) (omega arith)
        (λ weight still.
        let a = whole weight in
        let b = weigh-more weight stops.step body calling.0 calling.1 in
        let d = weigh-front weight (suc stops.step) body in
        let e = weigh-front weight stops.ends.step (helper_code order g) in
        let f = fault-within order weight h g is_fault in
        omega (arith, a, b, d, e, f))
        (paths-join site.program site.words site.method at (call_at + 1) (call_at + 1) (n + (stops.turns + 1) + 1) stops.ends.turns (λ weight. whole_weight order front weight + (weight (Call h) + weigh weight (take stops.step body)) + step_weight weight calling.0) (λ weight. weigh weight (drop 0 (take stops.ends.step (helper_code order g)))) (stands site at w) inside final
        (paths-join site.program site.words site.method at (call_at + 1) (call_at + 1) (n + (stops.turns + 1)) 1 (λ weight. whole_weight order front weight + (weight (Call h) + weigh weight (take stops.step body))) (λ weight. step_weight weight calling.0) (stands site at w) (frame_placed h (bytes_before body stops.step) stops.at frames) inside
        (paths-join site.program site.words site.method at call_at (call_at + 1) n (stops.turns + 1) (whole_weight order front) (λ weight. weight (Call h) + weigh weight (take stops.step body)) (stands site at w) (stands site call_at v) (frame_placed h (bytes_before body stops.step) stops.at frames) front-path first.0)
        enter-path)
        ending-path.0)

    pub call-stops : ComesToTurn site at (at + size code) 1 (n + (most + 1) + (most + 1) + 1) (whole_weight order code) Last (stands site at w)
    call-stops =
        let a = stops.in_time in
        let b = stops.ends.in_time in
        let split = size-both front (Does (Call h) ∷ back) in
        record {
          turns = n + (stops.turns + 1) + 1 + stops.ends.turns;
          before = final;
          place = call_at + 1;
          path = stop-path;
          is_there = none-there site.method g (0 + bytes_before (helper_code order g) stops.ends.step) (call_at + 1) stops.ends.at deeper apart;
          below = omega (arith, split);
          no_sooner = omega arith;
          in_time = omega (arith, a, b);
          last = subst (Last (n + (stops.turns + 1) + 1 + stops.ends.turns + 1) (call_at + 1)) (sym ending-path.1.turns) (last (n + (stops.turns + 1) + 1 + stops.ends.turns + 1) (call_at + 1));
        }
