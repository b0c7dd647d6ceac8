-- What stretches of code count where they stand, and calls with what they call.
use Rattle.std.proofs.Common.{◌≡◌, ◌≢◌, ℕ, zero, suc, ◌+◌, ◌==◌, ◌<◌, Bool, true, false, if◌then◌else◌, List, [], ◌∷◌, ◌++◌, map, length, Option, Some, None, option_and_then, refl, ap, sym, ◌∙◌, arith, eqb→eq, unwrap_or}
use Rattle.std.specs.Bool as tests
use Rattle.std.specs.List.{sum_by}
use Rattle.std.proofs.lemmas.Bool.{lt-ltb, eq-eqb, ne_eqb}
use Rattle.std.proofs.lemmas.List.Sums.{sum_by-append, sum_by-cons}
use Rattle.std.proofs.lemmas.Option.{none-some}
use Rattle.run_definition.specs.Turn.{Turn, moves, ends, leaves, asks, trap}
use Rattle.run_simulation_laws.specs.Trail.{went, if_moves, advanced, moved}
use Rattle.run_simulation_laws.specs.Places.{visit, visited}
use Rattle.run_simulation_laws.proofs.Passing.{advanced_add, moved_add, first_move, moved_one}
use Rattle.run_simulation_laws.proofs.Places.{visited_append}
use Rattle.jvm_definition.specs.declared.linked_line.LinkedLine.{LinkedLine}
use Rattle.jvm_definition.specs.declared.instruction.Instruction.{Instruction}
use Rattle.jvm_definition.specs.Program.{Program, line_in, linked_line_at}
use Rattle.jvm_definition.specs.declared.value.Value.{Value}
use Rattle.jvm_definition.specs.Effect.{Workspace, frames_trap}
use Rattle.jvm_definition.specs.Step.{JvmState, Frame, frame_placed, jvm_turn, jvm_turn_by, entered_frame, method_called, returned_to}
use Rattle.jvm_definition.specs.Step as machine
use Rattle.jvm_definition_laws.specs.Stretch as code
use Rattle.jvm_definition_laws.specs.Stretch.{Point, passed, stretch, moved_instruction, moved_line, StandsAt, body_workspace, caller_workspace, CallsAndReturns}
use Rattle.jvm_definition_laws.proofs.Moving.{effect-moved}
use Rattle.jvm_definition_laws.proofs.Stretches.{line-stands, stretch-stands}
use Rattle.emit_paths_laws.specs.Classes.{weighed, executed, place_in}
use Rattle.emit_paths_laws.specs.Code.{line_then, passes, weight_of, waiting_frame, CallsThrough}

-- ---- turns that only move are the same turns

pub advanced_same : {S : Type 0} (turn : S → Turn S) (n : ℕ) (s : S) → advanced turn n s ≡ code.advanced turn n s
advanced_same turn zero s = refl
advanced_same turn (suc n) s = elim (turn s) as (λ x. if_moves x None (advanced turn n) ≡ elim x [
  | moves t ↦ code.advanced turn n t
  | ends e ↦ None
  | leaves q e ↦ None
  | asks q next ↦ None
]) [ moves t ↦ advanced_same turn n t | ends e ↦ refl | leaves q e ↦ refl | asks q next ↦ refl ]

found_by : (at : ℕ) (l line : LinkedLine) (others : Option LinkedLine) (b : Bool) → b ≡ (l.at == at) → (others ≡ Some line → line.at ≡ at) → (if b then Some l else others) ≡ Some line → line.at ≡ at
found_by at l line others true e on h =
    let same : l ≡ line = ap (λ (o : Option LinkedLine). unwrap_or o line) h in
    let here : l.at ≡ at = eqb→eq l.at at (tests.passes (l.at == at) (sym e)) in
    ap (λ (x : LinkedLine). x.at) (sym same) ∙ here
found_by at l line others false e on h = on h

pub line_found : (lines : List LinkedLine) (at : ℕ) (line : LinkedLine) → line_in lines at ≡ Some line → line.at ≡ at
line_found [] at line is = absurd (none-some line is)
line_found (l ∷ lines) at line is =
    found_by at l line (line_in lines at) (l.at == at) refl (line_found lines at line) is

-- one instruction of a stretch, where it stands
one_passed : (program : Program) (words m by : ℕ) (lines : List LinkedLine) (others : List Frame) → StandsAt program m by lines → (at : ℕ) (w : Workspace) (q : Point) → passed program words (line_in lines at) w ≡ Some q → jvm_turn program words (frame_placed m (by + at) w others) ≡ moves (frame_placed m (by + q.at) q.workspace others)
one_passed program words m by lines others stands at w q is =
    let s = frame_placed m (by + at) w others in
    let t = frame_placed m (by + q.at) q.workspace others in
    let one : stretch program words lines (suc zero) at w ≡ Some q = ap (option_and_then (λ (p : Point). stretch program words lines zero p.at p.workspace)) is in
    let comes : advanced (jvm_turn program words) (suc zero) s ≡ Some t = advanced_same (jvm_turn program words) (suc zero) s ∙ stretch-stands program words m by lines others stands (suc zero) at w q one in
    let u = first_move (jvm_turn program words) zero s t comes in
    let same : u.0 ≡ t = ap (λ (o : Option JvmState). unwrap_or o t) u.2 in
    u.1 ∙ ap moves same

module _ (program : Program) (words : ℕ) (weight : Instruction → ℕ) (still : (by : ℕ) (i : Instruction) → weight (moved_instruction by i) ≡ weight i) where
  line_counts : (m by at : ℕ) (lines : List LinkedLine) (line : LinkedLine) → StandsAt program m by lines → line_in lines at ≡ Some line → weighed weight (linked_line_at program m (by + at)) ≡ weight line.instruction
  line_counts m by at lines line stands is =
      ap (weighed weight) (line-stands program m by at lines line stands is) ∙ still by line.instruction

  module _ (m by : ℕ) (lines : List LinkedLine) (others : List Frame) (stands : StandsAt program m by lines) where
    count_first : (n at : ℕ) (w : Workspace) (p : Point) (found : Option LinkedLine) (first : Option Point) → line_in lines at ≡ found → passed program words found w ≡ first → option_and_then (λ (q : Point). stretch program words lines n q.at q.workspace) first ≡ Some p → ((q : Point) → stretch program words lines n q.at q.workspace ≡ Some p → sum_by (executed program weight) (moved (jvm_turn program words) n (frame_placed m (by + q.at) q.workspace others)) ≡ weight_of weight (passes program words lines n q.at q.workspace)) → sum_by (executed program weight) (moved (jvm_turn program words) (suc n) (frame_placed m (by + at) w others)) ≡ weight_of weight (line_then found first (λ (q : Point). passes program words lines n q.at q.workspace))
    count_first n at w p None first is goes whole on =
        absurd (none-some p (ap (option_and_then (λ (q : Point). stretch program words lines n q.at q.workspace)) goes ∙ whole))
    count_first n at w p (Some line) None is goes whole on = absurd (none-some p whole)
    count_first n at w p (Some line) (Some q) is goes whole on =
        let s = frame_placed m (by + at) w others in
        let t = frame_placed m (by + q.at) q.workspace others in
        let step : jvm_turn program words s ≡ moves t = one_passed program words m by lines others stands at w q (ap (λ f. passed program words f w) is ∙ goes) in
        let trail : moved (jvm_turn program words) (suc n) s ≡ went s t ∷ moved (jvm_turn program words) n t = ap (λ x. if_moves x [] (λ u. went s u ∷ moved (jvm_turn program words) n u)) step in
        let here : executed program weight (went s t) ≡ weight line.instruction = line_counts m by at lines line stands is in
        let later = passes program words lines n q.at q.workspace in
        let a : sum_by (executed program weight) (moved (jvm_turn program words) (suc n) s) ≡ executed program weight (went s t) + sum_by (executed program weight) (moved (jvm_turn program words) n t) = ap (sum_by (executed program weight)) trail ∙ sum_by-cons (executed program weight) (went s t) (moved (jvm_turn program words) n t) in
        let b : weight_of weight (line ∷ later) ≡ weight line.instruction + weight_of weight later = sum_by-cons (λ (l : LinkedLine). weight l.instruction) line later in
        let c : sum_by (executed program weight) (moved (jvm_turn program words) n t) ≡ weight_of weight later = on q whole in
        omega (arith, a, b, c, here)

    pub stretch_counts : (n at : ℕ) (w : Workspace) (p : Point) → stretch program words lines n at w ≡ Some p → sum_by (executed program weight) (moved (jvm_turn program words) n (frame_placed m (by + at) w others)) ≡ weight_of weight (passes program words lines n at w)
    stretch_counts zero at w p is = refl
    stretch_counts (suc n) at w p is =
        count_first n at w p (line_in lines at) (passed program words (line_in lines at) w) refl refl is (λ q whole. stretch_counts n q.at q.workspace p whole)

-- ---- the places of a stretch

module _ (program : Program) (words m by : ℕ) (lines : List LinkedLine) (others : List Frame) (stands : StandsAt program m by lines) where
  own_place : (at : ℕ) (w : Workspace) → place_in m (frame_placed m (by + at) w others) ≡ Some (by + at)
  own_place at w = ap (λ b. if b then Some (by + at) else None) (eq-eqb m m refl)

  visit_first : (n at : ℕ) (w : Workspace) (p : Point) (found : Option LinkedLine) (first : Option Point) → line_in lines at ≡ found → passed program words found w ≡ first → option_and_then (λ (q : Point). stretch program words lines n q.at q.workspace) first ≡ Some p → ((q : Point) → stretch program words lines n q.at q.workspace ≡ Some p → visited (place_in m) (moved (jvm_turn program words) n (frame_placed m (by + q.at) q.workspace others)) ≡ map (λ (l : LinkedLine). by + l.at) (passes program words lines n q.at q.workspace)) → visited (place_in m) (moved (jvm_turn program words) (suc n) (frame_placed m (by + at) w others)) ≡ map (λ (l : LinkedLine). by + l.at) (line_then found first (λ (q : Point). passes program words lines n q.at q.workspace))
  visit_first n at w p None first is goes whole on =
      absurd (none-some p (ap (option_and_then (λ (q : Point). stretch program words lines n q.at q.workspace)) goes ∙ whole))
  visit_first n at w p (Some line) None is goes whole on = absurd (none-some p whole)
  visit_first n at w p (Some line) (Some q) is goes whole on =
      let s = frame_placed m (by + at) w others in
      let t = frame_placed m (by + q.at) q.workspace others in
      let step : jvm_turn program words s ≡ moves t = one_passed program words m by lines others stands at w q (ap (λ f. passed program words f w) is ∙ goes) in
      let later = passes program words lines n q.at q.workspace in
      ap (λ x. visited (place_in m) (if_moves x [] (λ u. went s u ∷ moved (jvm_turn program words) n u))) step
      ∙ ap (λ o. visit o (visited (place_in m) (moved (jvm_turn program words) n t))) (own_place at w)
      ∙ ap (λ places. (by + at) ∷ places) (on q whole)
      ∙ ap (λ a. (by + a) ∷ map (λ (l : LinkedLine). by + l.at) later) (sym (line_found lines at line is))

  pub stretch_visits : (n at : ℕ) (w : Workspace) (p : Point) → stretch program words lines n at w ≡ Some p → visited (place_in m) (moved (jvm_turn program words) n (frame_placed m (by + at) w others)) ≡ map (λ (l : LinkedLine). by + l.at) (passes program words lines n at w)
  stretch_visits zero at w p is = refl
  stretch_visits (suc n) at w p is =
      visit_first n at w p (line_in lines at) (passed program words (line_in lines at) w) refl refl is (λ q whole. stretch_visits n q.at q.workspace p whole)

  -- and none of another method's
  none_first : (other n at : ℕ) (w : Workspace) (p : Point) (first : Option Point) → m ≢ other → passed program words (line_in lines at) w ≡ first → option_and_then (λ (q : Point). stretch program words lines n q.at q.workspace) first ≡ Some p → ((q : Point) → stretch program words lines n q.at q.workspace ≡ Some p → visited (place_in other) (moved (jvm_turn program words) n (frame_placed m (by + q.at) q.workspace others)) ≡ []) → visited (place_in other) (moved (jvm_turn program words) (suc n) (frame_placed m (by + at) w others)) ≡ []
  none_first other n at w p None differ goes whole on = absurd (none-some p whole)
  none_first other n at w p (Some q) differ goes whole on =
      let s = frame_placed m (by + at) w others in
      let t = frame_placed m (by + q.at) q.workspace others in
      let step : jvm_turn program words s ≡ moves t = one_passed program words m by lines others stands at w q goes in
      let elsewhere : place_in other s ≡ None = ap (λ b. if b then Some (by + at) else None) (ne_eqb m other differ) in
      ap (λ x. visited (place_in other) (if_moves x [] (λ u. went s u ∷ moved (jvm_turn program words) n u))) step
      ∙ ap (λ o. visit o (visited (place_in other) (moved (jvm_turn program words) n t))) elsewhere
      ∙ on q whole

  pub stretch_elsewhere : (other n at : ℕ) (w : Workspace) (p : Point) → m ≢ other → stretch program words lines n at w ≡ Some p → visited (place_in other) (moved (jvm_turn program words) n (frame_placed m (by + at) w others)) ≡ []
  stretch_elsewhere other zero at w p differ is = refl
  stretch_elsewhere other (suc n) at w p differ is =
      none_first other n at w p (passed program words (line_in lines at) w) differ refl is (λ q whole. stretch_elsewhere other n q.at q.workspace p differ whole)

-- ---- calls

called_moves : (callee : ℕ) (given : List Value) (s : JvmState) → length s.frames < 64 → method_called callee given s ≡ moves (record { fields = s.fields; heap = s.heap; frames = entered_frame callee given ∷ s.frames })
called_moves callee given s few =
    ap (λ b. if b then moves (record { fields = s.fields; heap = s.heap; frames = entered_frame callee given ∷ s.frames }) else ends (trap frames_trap)) (lt-ltb (length s.frames) 64 few)

result_placed : (m at : ℕ) (result : Option Value) (caller back : Workspace) (others : List Frame) → returned_to (record { method = m; at = at; locals = caller.locals; operands = caller.operands } ∷ others) result back ≡ moves (frame_placed m at (caller_workspace result caller back) others)
result_placed m at None caller back others = refl
result_placed m at (Some v) caller back others = refl

module _ (program : Program) (words m n : ℕ) (line : LinkedLine) (w caller back : Workspace) (result : Option Value) (others : List Frame) (c : CallsThrough program words m line w others n result caller back) (few : length others < 63) where
  abbrev waiting : Frame
  waiting = waiting_frame m line caller

  abbrev begun : JvmState
  begun = frame_placed m line.at w others

  abbrev inside : JvmState
  inside = frame_placed c.callee 0 (body_workspace c.given caller) (waiting ∷ others)

  abbrev behind : JvmState
  behind = frame_placed c.callee c.end_at.at c.end_at.workspace (waiting ∷ others)

  abbrev over : JvmState
  over = frame_placed m line.next (caller_workspace result caller back) others

  enters_body : jvm_turn program words begun ≡ moves inside
  enters_body =
      let room : length (waiting ∷ others) < 64 = omega arith in
      ap (machine.executed_line program words begun (record { method = m; at = line.at; locals = w.locals; operands = w.operands }) others) c.stands
      ∙ ap (λ e. jvm_turn_by e m line others) c.calls
      ∙ called_moves c.callee c.given (frame_placed m line.next caller others) room

  gives_back : jvm_turn program words behind ≡ moves over
  gives_back =
      ap (machine.executed_line program words behind (record { method = c.callee; at = c.end_at.at; locals = c.end_at.workspace.locals; operands = c.end_at.workspace.operands }) (waiting ∷ others)) c.last_stands
      ∙ ap (λ e. jvm_turn_by e c.callee c.last (waiting ∷ others)) c.returns
      ∙ result_placed m line.next result caller back others

  call_trail : moved (jvm_turn program words) (n + 2) begun ≡ went begun inside ∷ (moved (jvm_turn program words) n inside ++ went behind over ∷ [])
  call_trail =
      let step = jvm_turn program words in
      let e : n + 2 ≡ 1 + (n + 1) = omega arith in
      let one : advanced step 1 begun ≡ Some inside = ap (λ x. if_moves x None (λ u. Some u)) enters_body in
      ap (λ i. moved step i begun) e
      ∙ moved_add step 1 (n + 1) begun inside one
      ∙ ap (λ xs. xs ++ moved step (n + 1) inside) (moved_one step begun inside enters_body)
      ∙ ap (λ xs. went begun inside ∷ xs) (moved_add step n 1 inside behind c.runs ∙ ap (λ xs. moved step n inside ++ xs) (moved_one step behind over gives_back))

  pub call_comes : advanced (jvm_turn program words) (n + 2) begun ≡ Some over
  call_comes =
      let step = jvm_turn program words in
      let e : n + 2 ≡ 1 + (n + 1) = omega arith in
      let one : advanced step 1 begun ≡ Some inside = ap (λ x. if_moves x None (λ u. Some u)) enters_body in
      let last : advanced step 1 behind ≡ Some over = ap (λ x. if_moves x None (λ u. Some u)) gives_back in
      ap (λ i. advanced step i begun) e
      ∙ advanced_add step 1 (n + 1) begun inside one
      ∙ advanced_add step n 1 inside behind c.runs
      ∙ last

  pub call_counts : (weight : Instruction → ℕ) → sum_by (executed program weight) (moved (jvm_turn program words) (n + 2) begun) ≡ weight line.instruction + sum_by (executed program weight) (moved (jvm_turn program words) n inside) + weight c.last.instruction
  call_counts weight =
      let f = executed program weight in
      let body = moved (jvm_turn program words) n inside in
      let first : f (went begun inside) ≡ weight line.instruction = ap (weighed weight) c.stands in
      let last : f (went behind over) ≡ weight c.last.instruction = ap (weighed weight) c.last_stands in
      let whole : sum_by f (moved (jvm_turn program words) (n + 2) begun) ≡ f (went begun inside) + sum_by f (body ++ went behind over ∷ []) = ap (sum_by f) call_trail ∙ sum_by-cons f (went begun inside) (body ++ went behind over ∷ []) in
      let parts : sum_by f (body ++ went behind over ∷ []) ≡ sum_by f body + sum_by f (went behind over ∷ []) = sum_by-append f body (went behind over ∷ []) in
      let one : sum_by f (went behind over ∷ []) ≡ f (went behind over) + 0 = sum_by-cons f (went behind over) [] in
      omega (arith, first, last, whole, parts, one)

  -- a call visits its own line in the caller, and no other, where what it calls does not visit the caller
  pub call_visits : c.callee ≢ m → visited (place_in m) (moved (jvm_turn program words) n inside) ≡ [] → visited (place_in m) (moved (jvm_turn program words) (n + 2) begun) ≡ line.at ∷ []
  call_visits differ none =
      let body = moved (jvm_turn program words) n inside in
      let elsewhere : place_in m behind ≡ None = ap (λ b. if b then Some c.end_at.at else None) (ne_eqb c.callee m differ) in
      let own : place_in m begun ≡ Some line.at = ap (λ b. if b then Some line.at else None) (eq-eqb m m refl) in
      ap (visited (place_in m)) call_trail
      ∙ ap (λ o. visit o (visited (place_in m) (body ++ went behind over ∷ []))) own
      ∙ ap (λ xs. line.at ∷ xs) (visited_append (place_in m) body (went behind over ∷ []) ∙ ap (λ xs. xs ++ visited (place_in m) (went behind over ∷ [])) none ∙ ap (λ o. visit o []) elsewhere)

-- a call of a method whose lines lead to its return
module _ (program : Program) (words m n : ℕ) (line : LinkedLine) (w caller back : Workspace) (result : Option Value) (others : List Frame) (c : CallsAndReturns program words m line w n result caller back) where
  abbrev pub through : CallsThrough program words m line w others n result caller back
  through = record {
    stands = c.stands;
    callee = c.callee;
    given = c.given;
    calls = c.calls;
    end_at = record { at = 0 + c.end_at.at; workspace = c.end_at.workspace };
    runs = advanced_same (jvm_turn program words) n (frame_placed c.callee 0 (body_workspace c.given caller) (waiting_frame m line caller ∷ others)) ∙ stretch-stands program words c.callee 0 c.body (waiting_frame m line caller ∷ others) c.body_stands n 0 (body_workspace c.given caller) c.end_at c.runs;
    last = moved_line 0 c.last;
    last_stands = line-stands program c.callee 0 c.end_at.at c.body c.last c.body_stands c.last_is;
    returns = effect-moved program words 0 c.last.instruction c.end_at.workspace ∙ c.returns;
  }

  pub leaf_counts : length others < 63 → (weight : Instruction → ℕ) → ((by : ℕ) (i : Instruction) → weight (moved_instruction by i) ≡ weight i) → sum_by (executed program weight) (moved (jvm_turn program words) (n + 2) (frame_placed m line.at w others)) ≡ weight line.instruction + weight_of weight (passes program words c.body n 0 (body_workspace c.given caller)) + weight c.last.instruction
  leaf_counts few weight still =
      let whole = call_counts program words m n line w caller back result others through few weight in
      let body = stretch_counts program words weight still c.callee 0 c.body (waiting_frame m line caller ∷ others) c.body_stands n 0 (body_workspace c.given caller) c.end_at c.runs in
      let last = still 0 c.last.instruction in
      omega (arith, whole, body, last)

  pub leaf_visits : length others < 63 → c.callee ≢ m → visited (place_in m) (moved (jvm_turn program words) (n + 2) (frame_placed m line.at w others)) ≡ line.at ∷ []
  leaf_visits few differ =
      call_visits program words m n line w caller back result others through few differ (stretch_elsewhere program words c.callee 0 c.body (waiting_frame m line caller ∷ others) c.body_stands m n 0 (body_workspace c.given caller) c.end_at differ c.runs)
