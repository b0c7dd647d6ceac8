-- A stretch of code that is run by itself is a run of the machine wherever it stands.
use Rattle.std.proofs.Common.{◌≡◌, ℕ, zero, suc, ◌+◌, ◌==◌, ◌<◌, List, [], ◌∷◌, length, slice_get, if◌then◌else◌, Bool, true, false, Option, Some, None, option_map, option_and_then, refl, ap, subst, sym, ◌∙◌, arith, eqb→eq, unwrap_or}
use Rattle.std.proofs.lemmas.Bool.{lt-ltb}
use Rattle.std.proofs.lemmas.Option.{none-some}
use Rattle.std.specs.Bool.{passes}
use Rattle.run_definition.specs.Question.{Question}
use Rattle.run_definition.specs.Answer.{Answer}
use Rattle.run_definition.specs.Turn.{Turn, moves, ends, leaves, asks, trap}
use Rattle.run_definition.specs.Run.{run_of}
use Rattle.nv_events.proofs.RunLaws.{turned, run_of-suc}
use Rattle.jvm_definition.specs.declared.linked_line.LinkedLine.{LinkedLine}
use Rattle.jvm_definition.specs.Program.{Program, line_in, linked_line_at, instruction_targets}
use Rattle.jvm_definition.specs.declared.value.Value.{Value}
use Rattle.jvm_definition.specs.Effect.{Workspace, InstructionEffect, goes_on, jumps, enters, gives, frames_trap, instruction_effect}
use Rattle.jvm_definition.specs.Step.{JvmState, Frame, frame_placed, jvm_turn, jvm_turn_by, executed_line, jumped, entered_frame, method_called, returned_to}
use Rattle.jvm_definition_laws.specs.Stretch.{advanced, Point, arrived, led, passed, stretch, moved_line, StandsAt, body_workspace, caller_workspace}
use Rattle.jvm_definition_laws.specs.StretchLaws.{CallsComeBack}
use Rattle.jvm_definition_laws.proofs.Moving.{effect-moved, target-moved}

-- a point further on
abbrev point_from : ℕ → Point → Point
point_from by p = record { at = by + p.at; workspace = p.workspace }

arrived-moved : (by : ℕ) (w : Workspace) (target : Option ℕ) → arrived w (option_map (λ t. by + t) target) ≡ option_map (point_from by) (arrived w target)
arrived-moved by w None = refl
arrived-moved by w (Some t) = refl

led-moved : (by : ℕ) (e : InstructionEffect) (l : LinkedLine) → led e (moved_line by l) ≡ option_map (point_from by) (led e l)
led-moved by (jumps k w) l = ap (arrived w) (target-moved by l.instruction k) ∙ arrived-moved by w (slice_get (instruction_targets l.instruction) k)
led-moved by (goes_on w) l = refl
led-moved by _ l = refl

-- where a line leads, the machine moves
jumped-arrived : (m : ℕ) (w : Workspace) (target : Option ℕ) (others : List Frame) (p : Point) → arrived w target ≡ Some p → jumped m target w others ≡ moves (frame_placed m p.at p.workspace others)
jumped-arrived m w None others p is = absurd (none-some p is)
jumped-arrived m w (Some t) others p is =
    ap (λ (q : Point). moves (frame_placed m q.at q.workspace others)) (ap (λ o. unwrap_or o p) is)

turn-led : (e : InstructionEffect) (m : ℕ) (line : LinkedLine) (others : List Frame) (p : Point) → led e line ≡ Some p → jvm_turn_by e m line others ≡ moves (frame_placed m p.at p.workspace others)
turn-led (goes_on w) m line others p is =
    ap (λ (q : Point). moves (frame_placed m q.at q.workspace others)) (ap (λ o. unwrap_or o p) is)
turn-led (jumps k w) m line others p is = jumped-arrived m w (slice_get (instruction_targets line.instruction) k) others p is
turn-led _ m line others p is = absurd (none-some p is)

-- the line of a stretch at an offset stands in the method, further on
found : (program : Program) (m by at : ℕ) (l : LinkedLine) (lines : List LinkedLine) (line : LinkedLine) → (b : Bool) → b ≡ (l.at == at) → linked_line_at program m (by + l.at) ≡ Some (moved_line by l) → ((if b then Some l else line_in lines at) ≡ Some line) → (line_in lines at ≡ Some line → linked_line_at program m (by + at) ≡ Some (moved_line by line)) → linked_line_at program m (by + at) ≡ Some (moved_line by line)
found program m by at l lines line true e here is others =
    let same : l.at ≡ at = eqb→eq l.at at (passes (l.at == at) (sym e)) in
    subst (λ a. linked_line_at program m (by + a) ≡ Some (moved_line by line)) same (here ∙ ap (λ x. Some (moved_line by x)) (ap (λ o. unwrap_or o line) is))
found program m by at l lines line false e here is others = others is

pub line-stands : (program : Program) (m by at : ℕ) (lines : List LinkedLine) (line : LinkedLine) → StandsAt program m by lines → line_in lines at ≡ Some line → linked_line_at program m (by + at) ≡ Some (moved_line by line)
line-stands program m by at [] line stands is = absurd (none-some line is)
line-stands program m by at (l ∷ lines) line stands is =
    found program m by at l lines line (l.at == at) refl stands.0 is (line-stands program m by at lines line stands.1)

-- ---- a stretch, instruction by instruction

passed-moved : (program : Program) (words m by : ℕ) (line : LinkedLine) (w : Workspace) (others : List Frame) (p : Point) → led (instruction_effect program words line.instruction w) line ≡ Some p → jvm_turn_by (instruction_effect program words (moved_line by line).instruction w) m (moved_line by line) others ≡ moves (frame_placed m (by + p.at) p.workspace others)
passed-moved program words m by line w others p is =
    let e = instruction_effect program words line.instruction w in
    let lead : led e (moved_line by line) ≡ Some (point_from by p) = led-moved by e line ∙ ap (option_map (point_from by)) is in
    ap (λ f. jvm_turn_by f m (moved_line by line) others) (effect-moved program words by line.instruction w)
    ∙ turn-led e m (moved_line by line) others (point_from by p) lead

turn-passed : (program : Program) (words m by at : ℕ) (w : Workspace) (others : List Frame) (found : Option LinkedLine) (p : Point) → ((line : LinkedLine) → found ≡ Some line → linked_line_at program m (by + at) ≡ Some (moved_line by line)) → passed program words found w ≡ Some p → jvm_turn program words (frame_placed m (by + at) w others) ≡ moves (frame_placed m (by + p.at) p.workspace others)
turn-passed program words m by at w others None p stands is = absurd (none-some p is)
turn-passed program words m by at w others (Some line) p stands is =
    ap (executed_line program words (frame_placed m (by + at) w others) (record { method = m; at = by + at; locals = w.locals; operands = w.operands }) others) (stands line refl)
    ∙ passed-moved program words m by line w others p is

abbrev after_turn : {S : Type 0} → (S → Turn S) → ℕ → Turn S → Option S
after_turn turn n (moves t) = advanced turn n t
after_turn turn n (ends e) = None
after_turn turn n (leaves q e) = None
after_turn turn n (asks q next) = None

pub advanced-suc : {S : Type 0} (turn : S → Turn S) (n : ℕ) (s : S) → advanced turn (suc n) s ≡ after_turn turn n (turn s)
advanced-suc turn n s = elim (turn s) as (λ x. elim x [
  | moves t ↦ advanced turn n t
  | ends e ↦ None
  | leaves q e ↦ None
  | asks q next ↦ None
] ≡ after_turn turn n x) [ moves t ↦ refl | ends e ↦ refl | leaves q e ↦ refl | asks q next ↦ refl ]

stretch-on : (program : Program) (words m by : ℕ) (lines : List LinkedLine) (others : List Frame) → StandsAt program m by lines → (n at : ℕ) (w : Workspace) (first : Option Point) (p : Point) → first ≡ passed program words (line_in lines at) w → option_and_then (λ (q : Point). stretch program words lines n q.at q.workspace) first ≡ Some p → ((q : Point) → stretch program words lines n q.at q.workspace ≡ Some p → advanced (jvm_turn program words) n (frame_placed m (by + q.at) q.workspace others) ≡ Some (frame_placed m (by + p.at) p.workspace others)) → advanced (jvm_turn program words) (suc n) (frame_placed m (by + at) w others) ≡ Some (frame_placed m (by + p.at) p.workspace others)
stretch-on program words m by lines others stands n at w None p e is goes = absurd (none-some p is)
stretch-on program words m by lines others stands n at w (Some q) p e is goes =
    advanced-suc (jvm_turn program words) n (frame_placed m (by + at) w others)
    ∙ ap (after_turn (jvm_turn program words) n) (turn-passed program words m by at w others (line_in lines at) q (λ line is_line. line-stands program m by at lines line stands is_line) (sym e))
    ∙ goes q is

pub stretch-stands : (program : Program) (words m by : ℕ) (lines : List LinkedLine) (others : List Frame) → StandsAt program m by lines → (n at : ℕ) (w : Workspace) (p : Point) → stretch program words lines n at w ≡ Some p → advanced (jvm_turn program words) n (frame_placed m (by + at) w others) ≡ Some (frame_placed m (by + p.at) p.workspace others)
stretch-stands program words m by lines others stands zero at w p is =
    ap (λ o. let q = unwrap_or o p in Some (frame_placed m (by + q.at) q.workspace others)) is
stretch-stands program words m by lines others stands (suc n) at w p is =
    stretch-on program words m by lines others stands n at w (passed program words (line_in lines at) w) p refl is
    (λ q on. stretch-stands program words m by lines others stands n q.at q.workspace p on)

-- ---- one after the other

advanced-then : {S : Type 0} (turn : S → Turn S) (n k : ℕ) (x : Turn S) → ((t : S) → advanced turn (n + k) t ≡ option_and_then (advanced turn k) (advanced turn n t)) → after_turn turn (n + k) x ≡ option_and_then (advanced turn k) (after_turn turn n x)
advanced-then turn n k (moves t) h = h t
advanced-then turn n k (ends e) h = refl
advanced-then turn n k (leaves q e) h = refl
advanced-then turn n k (asks q next) h = refl

pub advanced-add : {S : Type 0} (turn : S → Turn S) (n k : ℕ) (s : S) → advanced turn (n + k) s ≡ option_and_then (advanced turn k) (advanced turn n s)
advanced-add turn zero k s = let e : zero + k ≡ k = omega arith in ap (λ i. advanced turn i s) e
advanced-add turn (suc n) k s =
    let e : suc n + k ≡ suc (n + k) = omega arith in
    ap (λ i. advanced turn i s) e
    ∙ advanced-suc turn (n + k) s
    ∙ advanced-then turn n k (turn s) (advanced-add turn n k)
    ∙ ap (option_and_then (advanced turn k)) (sym (advanced-suc turn n s))

abbrev on_from : Program → ℕ → List LinkedLine → ℕ → Option Point → Option Point
on_from program words lines n first = option_and_then (λ (p : Point). stretch program words lines n p.at p.workspace) first

stretch-then : (program : Program) (words : ℕ) (lines : List LinkedLine) (n k : ℕ) (first : Option Point) → ((q : Point) → stretch program words lines (n + k) q.at q.workspace ≡ on_from program words lines k (stretch program words lines n q.at q.workspace)) → on_from program words lines (n + k) first ≡ on_from program words lines k (on_from program words lines n first)
stretch-then program words lines n k None h = refl
stretch-then program words lines n k (Some q) h = h q

pub stretch-add : (program : Program) (words : ℕ) (lines : List LinkedLine) (n k at : ℕ) (w : Workspace) → stretch program words lines (n + k) at w ≡ on_from program words lines k (stretch program words lines n at w)
stretch-add program words lines zero k at w =
    let e : zero + k ≡ k = omega arith in ap (λ i. stretch program words lines i at w) e
stretch-add program words lines (suc n) k at w =
    let e : suc n + k ≡ suc (n + k) = omega arith in
    ap (λ i. stretch program words lines i at w) e
    ∙ stretch-then program words lines n k (passed program words (line_in lines at) w) (λ q. stretch-add program words lines n k q.at q.workspace)

-- a run begins with turns that only move
run-moved : {S K : Type 0} (turn : S → Turn S) (reply : K → Question → Option (Answer × K)) (n k : ℕ) (x : Turn S) (s t : S) (q : K) → after_turn turn n x ≡ Some t → ((u : S) → advanced turn n u ≡ Some t → run_of turn reply (n + k) u q ≡ run_of turn reply k t q) → turned reply x s q (run_of turn reply (n + k)) ≡ run_of turn reply k t q
run-moved turn reply n k (moves u) s t q is h = h u is
run-moved turn reply n k (ends e) s t q is h = absurd (none-some t is)
run-moved turn reply n k (leaves asked e) s t q is h = absurd (none-some t is)
run-moved turn reply n k (asks asked next) s t q is h = absurd (none-some t is)

pub run-advanced : {S K : Type 0} (turn : S → Turn S) (reply : K → Question → Option (Answer × K)) (n k : ℕ) (s t : S) (q : K) → advanced turn n s ≡ Some t → run_of turn reply (n + k) s q ≡ run_of turn reply k t q
run-advanced turn reply zero k s t q is =
    let e : zero + k ≡ k = omega arith in
    ap (λ i. run_of turn reply i s q) e ∙ ap (λ u. run_of turn reply k u q) (ap (λ o. unwrap_or o t) is)
run-advanced turn reply (suc n) k s t q is =
    let e : suc n + k ≡ suc (n + k) = omega arith in
    ap (λ i. run_of turn reply i s q) e
    ∙ run_of-suc turn reply (n + k) s q
    ∙ run-moved turn reply n k (turn s) s t q (sym (advanced-suc turn n s) ∙ is) (λ u on. run-advanced turn reply n k u t q on)

-- ---- calls

called-moves : (callee : ℕ) (given : List Value) (s : JvmState) → length s.frames < 64 → method_called callee given s ≡ moves (record { fields = s.fields; heap = s.heap; frames = entered_frame callee given ∷ s.frames })
called-moves callee given s few =
    ap (λ b. if b then moves (record { fields = s.fields; heap = s.heap; frames = entered_frame callee given ∷ s.frames }) else ends (trap frames_trap)) (lt-ltb (length s.frames) 64 few)

result-placed : (m at : ℕ) (result : Option Value) (caller back : Workspace) (others : List Frame) → returned_to (record { method = m; at = at; locals = caller.locals; operands = caller.operands } ∷ others) result back ≡ moves (frame_placed m at (caller_workspace result caller back) others)
result-placed m at None caller back others = refl
result-placed m at (Some v) caller back others = refl

one-turn : {S : Type 0} (turn : S → Turn S) (s t : S) → turn s ≡ moves t → advanced turn 1 s ≡ Some t
one-turn turn s t is = advanced-suc turn 0 s ∙ ap (after_turn turn 0) is

line-turn : (program : Program) (words m : ℕ) (line : LinkedLine) (w : Workspace) (others : List Frame) (e : InstructionEffect) → linked_line_at program m line.at ≡ Some line → instruction_effect program words line.instruction w ≡ e → jvm_turn program words (frame_placed m line.at w others) ≡ jvm_turn_by e m line others
line-turn program words m line w others e stands is =
    ap (executed_line program words (frame_placed m line.at w others) (record { method = m; at = line.at; locals = w.locals; operands = w.operands }) others) stands
    ∙ ap (λ f. jvm_turn_by f m line others) is

last-turn : (program : Program) (words callee at : ℕ) (last : LinkedLine) (w back : Workspace) (result : Option Value) (others : List Frame) → linked_line_at program callee at ≡ Some (moved_line 0 last) → instruction_effect program words last.instruction w ≡ gives result back → jvm_turn program words (frame_placed callee at w others) ≡ returned_to others result back
last-turn program words callee at last w back result others stands is =
    ap (executed_line program words (frame_placed callee at w others) (record { method = callee; at = at; locals = w.locals; operands = w.operands }) others) stands
    ∙ ap (λ f. jvm_turn_by f callee (moved_line 0 last) others) (effect-moved program words 0 last.instruction w ∙ is)

pub calls-return : CallsComeBack
calls-return program words m n line w caller back result others c few =
    let step = jvm_turn program words in
    let waiting : Frame = record { method = m; at = line.next; locals = caller.locals; operands = caller.operands } in
    let inside = frame_placed c.callee 0 (body_workspace c.given caller) (waiting ∷ others) in
    let behind = frame_placed c.callee (0 + c.end_at.at) c.end_at.workspace (waiting ∷ others) in
    let e : n + 2 ≡ 1 + (n + 1) = omega arith in
    let room : length (waiting ∷ others) < 64 = omega arith in
    let first : advanced step 1 (frame_placed m line.at w others) ≡ Some inside = one-turn step (frame_placed m line.at w others) inside (line-turn program words m line w others (enters c.callee c.given caller) c.stands c.calls ∙ called-moves c.callee c.given (frame_placed m line.next caller others) room) in
    let middle : advanced step n inside ≡ Some behind = stretch-stands program words c.callee 0 c.body (waiting ∷ others) c.body_stands n 0 (body_workspace c.given caller) c.end_at c.runs in
    let final : advanced step 1 behind ≡ Some (frame_placed m line.next (caller_workspace result caller back) others) = one-turn step behind (frame_placed m line.next (caller_workspace result caller back) others) (last-turn program words c.callee (0 + c.end_at.at) c.last c.end_at.workspace back result (waiting ∷ others) (line-stands program c.callee 0 c.end_at.at c.body c.last c.body_stands c.last_is) c.returns ∙ result-placed m line.next result caller back others) in
    ap (λ i. advanced step i (frame_placed m line.at w others)) e
    ∙ advanced-add step 1 (n + 1) (frame_placed m line.at w others)
    ∙ ap (option_and_then (advanced step (n + 1))) first
    ∙ advanced-add step n 1 inside
    ∙ ap (option_and_then (advanced step 1)) middle
    ∙ final
