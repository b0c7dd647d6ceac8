-- A frame below all others, which cannot go on.
use Rattle.std.proofs.Common.{◌≡◌, ◌≢◌, ℕ, zero, suc, ◌+◌, ◌==◌, ◌≤◌, nat_lt, Bool, true, false, if◌then◌else◌, List, [], ◌∷◌, ◌++◌, length, slice_get, Option, Some, None, option_and_then, refl, sym, ap, subst, ◌∙◌, true≢false, arith, ◌⊎◌, inl, inr}
use Rattle.std.proofs.lemmas.Bool.Decides.{nat_tests}
use Rattle.std.proofs.lemmas.List.{length-append}
use Rattle.run_definition.specs.Words.{signed_of}
use Rattle.run_definition.specs.Question.{Question}
use Rattle.run_definition.specs.Answer.{Answer}
use Rattle.run_definition.specs.Turn.{Turn, moves, ends, leaves, asks, exit, trap}
use Rattle.run_definition.specs.Run.{Run, run_of}
use Rattle.run_definition.specs.declared.call.Call.{Call}
use Rattle.run_definition.specs.declared.outcome.Outcome.TheVariants.{Trapped}
use Rattle.nv_events.proofs.RunLaws.{given, turned, run_of-suc}
use Rattle.jvm_definition.specs.declared.linked_line.LinkedLine.{LinkedLine}
use Rattle.jvm_definition.specs.declared.linked_method.LinkedMethod.{LinkedMethod}
use Rattle.jvm_definition.specs.declared.value.Value.{Value}
use Rattle.jvm_definition.specs.declared.value.Value.TheVariants.{Unset as unset}
use Rattle.jvm_definition.specs.HostMemory.{HostMemory}
use Rattle.jvm_definition.specs.Program.{Program, line_in, linked_line_at, instruction_targets}
use Rattle.jvm_definition.specs.Effect.{Workspace, InstructionEffect, goes_on, jumps, enters, gives, asks_host, faults, traps, wrong, frames_trap, instruction_effect}
use Rattle.jvm_definition.specs.Step.{JvmState, Frame, entered_frame, workspace_of, frame_placed, stuck, jumped, method_called, with_result, returned_to, host_question, after_host, jvm_turn_by, executed_line, turn_of, jvm_turn}
use Rattle.jvm_run_laws.specs.Below.{above, StandsNowhere}
use Rattle.jvm_run_laws.specs.Laws.{RunsAs, RunsNeedNoFrameBelow, SomeFrameStandsNowhere}
use Rattle.jvm_run_laws.proofs.Turns.{seen_turn}

module _ (program : Program) (words : ℕ) (below : Frame) (nowhere : StandsNowhere program below) where
  -- ---- a turn

  -- A turn above the frame is that without it; or it traps; or it returns to the frame, which is stuck.
  abbrev ComesBack : Turn JvmState → Type 0
  ComesBack x = (t : JvmState) × (x ≡ moves t) × (jvm_turn program words t ≡ stuck)

  abbrev IsMet : Turn JvmState → Turn JvmState → Type 0
  IsMet x y = (x ≡ seen_turn (above below) y) ⊎ (((k : ℕ) × (x ≡ ends (trap k))) ⊎ ComesBack x)

  jumped-met : (m : ℕ) (target : Option ℕ) (w : Workspace) (others : List Frame) → IsMet (jumped m target w (others ++ below ∷ [])) (jumped m target w others)
  jumped-met m None w others = inl refl
  jumped-met m (Some target) w others = inl refl

  -- what is called has room above the frame, so it has room without it
  few-met : (few some : Bool) (s t : JvmState) → (few ≡ true → some ≡ true) → s ≡ above below t → IsMet (if few then moves s else ends (trap frames_trap)) (if some then moves t else ends (trap frames_trap))
  few-met true true s t h e = inl (ap (λ (x : JvmState). moves x) e)
  few-met true false s t h e = absurd (true≢false (sym (h refl)))
  few-met false some s t h e = inr (inl (frames_trap, refl))

  fewer : (n m : ℕ) → n ≡ m + 1 → nat_lt n 64 ≡ true → nat_lt m 64 ≡ true
  fewer n m e h = grind (arith, nat_tests)

  called-met : (m : ℕ) (given : List Value) (s : JvmState) → IsMet (method_called m given (above below s)) (method_called m given s)
  called-met m given s =
      few-met (nat_lt (length (above below s).frames) 64) (nat_lt (length s.frames) 64)
      (record { fields = s.fields; heap = s.heap; frames = entered_frame m given ∷ (s.frames ++ below ∷ []) })
      (record { fields = s.fields; heap = s.heap; frames = entered_frame m given ∷ s.frames })
      (fewer (length (s.frames ++ below ∷ [])) (length s.frames) (length-append s.frames (below ∷ []))) refl

  stuck-there : (v : Option Value) (fields : _) (heap : _) → jvm_turn program words (record { fields = fields; heap = heap; frames = with_result v below ∷ [] }) ≡ stuck
  stuck-there None fields heap =
      ap (executed_line program words (record { fields = fields; heap = heap; frames = below ∷ [] }) below []) nowhere
  stuck-there (Some v) fields heap =
      ap (executed_line program words (record { fields = fields; heap = heap; frames = with_result (Some v) below ∷ [] }) (with_result (Some v) below) []) nowhere

  returned-met : (others : List Frame) (v : Option Value) (w : Workspace) → IsMet (returned_to (others ++ below ∷ []) v w) (returned_to others v w)
  returned-met [] v w = inr (inr (record { fields = w.fields; heap = w.heap; frames = with_result v below ∷ [] }, refl, stuck-there v w.fields w.heap))
  returned-met (f ∷ others) v w = inl refl

  asks-met : (last : Bool) (question : Question) (call : Call) (next far_next : Answer → JvmState) → far_next ≡ (λ a. above below (next a)) → IsMet (if last then leaves question (exit (signed_of call.a0)) else asks question far_next) (if last then leaves question (exit (signed_of call.a0)) else asks question next)
  asks-met true question call next far_next e = inl refl
  asks-met false question call next far_next e = inl (ap (λ (f : Answer → JvmState). asks question f) e)

  turn_by-met : (e : InstructionEffect) (m : ℕ) (line : LinkedLine) (others : List Frame) → IsMet (jvm_turn_by e m line (others ++ below ∷ [])) (jvm_turn_by e m line others)
  turn_by-met (goes_on w) m line others = inl refl
  turn_by-met (jumps k w) m line others = jumped-met m (slice_get (instruction_targets line.instruction) k) w others
  turn_by-met (enters callee given w) m line others = called-met callee given (frame_placed m line.next w others)
  turn_by-met (gives v w) m line others = returned-met others v w
  turn_by-met (asks_host call readable writable w) m line others =
      let memory : HostMemory = record { heap = w.heap; readable = readable; writable = writable } in
      asks-met (call.number == 1) (host_question call memory) call (λ answer. frame_placed m line.next (after_host call memory w answer) others) (λ answer. frame_placed m line.next (after_host call memory w answer) (others ++ below ∷ [])) refl
  turn_by-met (faults f) m line others = inl refl
  turn_by-met (traps k) m line others = inl refl
  turn_by-met wrong m line others = inl refl

  executed-met : (s : JvmState) (f : Frame) (others : List Frame) (line : Option LinkedLine) → IsMet (executed_line program words (above below s) f (others ++ below ∷ []) line) (executed_line program words s f others line)
  executed-met s f others None = inl refl
  executed-met s f others (Some line) = turn_by-met (instruction_effect program words line.instruction (workspace_of s f)) f.method line others

  turn_of-met : (s : JvmState) (frames : List Frame) → IsMet (turn_of program words (above below s) (frames ++ below ∷ [])) (turn_of program words s frames)
  turn_of-met s [] = inr (inl (0, ap (executed_line program words (above below s) below []) nowhere))
  turn_of-met s (f ∷ others) = executed-met s f others (linked_line_at program f.method f.at)

  -- ---- runs

  module _ {K : Type 0} (reply : K → Question → Option (Answer × K)) where
    abbrev go : ℕ → JvmState → K → Run JvmState K
    go n s k = run_of (jvm_turn program words) reply n s k

    abbrev NeverTraps : JvmState → K → Type 0
    NeverTraps s k = (m trap : ℕ) → (go m (above below s) k).outcome ≢ Trapped trap

    abbrev Same : ℕ → JvmState → K → Type 0
    Same n s k = RunsAs (above below) (go n s k) (go n (above below s) k)

    -- so many turns and one more, by what the first one is
    first-turn : (m : ℕ) (s : JvmState) (k : K) (x : Turn JvmState) → jvm_turn program words s ≡ x → go (suc m) s k ≡ turned reply x s k (go m)
    first-turn m s k x e =
        run_of-suc (jvm_turn program words) reply m s k ∙ ap (λ (x : Turn JvmState). turned reply x s k (go m)) e

    answered : (q : Question) (next : Answer → JvmState) (s : JvmState) (k : K) (got : Option (Answer × K)) (n : ℕ) → reply k q ≡ got → jvm_turn program words (above below s) ≡ asks q (λ a. above below (next a)) → NeverTraps s k → ((s : JvmState) (k : K) → NeverTraps s k → Same n s k) → RunsAs (above below) (given got q next s k (go n)) (given got q (λ a. above below (next a)) (above below s) k (go n))
    answered q next s k None n is e h more =
        record { questions = refl; outcome = refl; system = refl; last = refl }
    answered q next s k (Some got) n is e h more =
        let on : NeverTraps (next got.0) got.1 = λ m trap o. h (suc m) trap (ap (λ (r : Run JvmState K). r.outcome) (first-turn m (above below s) k (asks q (λ a. above below (next a))) e ∙ ap (λ (got : Option (Answer × K)). given got q (λ a. above below (next a)) (above below s) k (go m)) is) ∙ o) in
        let r = more (next got.0) got.1 on in
        record {
          questions = ap (λ qs. q ∷ qs) r.questions;
          outcome = r.outcome;
          system = r.system;
          last = r.last;
        }

    turned-same : (x : Turn JvmState) (s : JvmState) (k : K) (n : ℕ) → jvm_turn program words (above below s) ≡ seen_turn (above below) x → NeverTraps s k → ((s : JvmState) (k : K) → NeverTraps s k → Same n s k) → RunsAs (above below) (turned reply x s k (go n)) (turned reply (seen_turn (above below) x) (above below s) k (go n))
    turned-same (moves t) s k n e h more =
        more t k (λ m trap o. h (suc m) trap (ap (λ (r : Run JvmState K). r.outcome) (first-turn m (above below s) k (moves (above below t)) e) ∙ o))
    turned-same (ends end) s k n e h more =
        record { questions = refl; outcome = refl; system = refl; last = refl }
    turned-same (leaves q end) s k n e h more =
        record { questions = refl; outcome = refl; system = refl; last = refl }
    turned-same (asks q next) s k n e h more = answered q next s k (reply k q) n refl e h more

    met-same : (s : JvmState) (k : K) (n : ℕ) → IsMet (jvm_turn program words (above below s)) (jvm_turn program words s) → NeverTraps s k → ((s : JvmState) (k : K) → NeverTraps s k → Same n s k) → Same (suc n) s k
    met-same s k n (inl e) h more =
        let by = turned-same (jvm_turn program words s) s k n e h more in
        subst (λ (r : Run JvmState K). RunsAs (above below) r (go (suc n) (above below s) k)) (sym (run_of-suc (jvm_turn program words) reply n s k))
        (subst (λ (r : Run JvmState K). RunsAs (above below) (turned reply (jvm_turn program words s) s k (go n)) r) (sym (first-turn n (above below s) k (seen_turn (above below) (jvm_turn program words s)) e)) by)
    met-same s k n (inr (inl (trap_kind, e))) h more =
        absurd (h (suc zero) trap_kind (ap (λ (r : Run JvmState K). r.outcome) (first-turn zero (above below s) k (ends (trap trap_kind)) e)))
    met-same s k n (inr (inr (t, e, there))) h more =
        absurd (h (suc (suc zero)) 0 (ap (λ (r : Run JvmState K). r.outcome) (first-turn (suc zero) (above below s) k (moves t) e ∙ first-turn zero t k stuck there)))

    pub runs-same : (n : ℕ) (s : JvmState) (k : K) → NeverTraps s k → Same n s k
    runs-same zero s k h =
        record { questions = refl; outcome = refl; system = refl; last = refl }
    runs-same (suc n) s k h = met-same s k n (turn_of-met s s.frames) h (runs-same n)

pub runs-above : {K : Type 0} (reply : K → Question → Option (Answer × K)) → RunsNeedNoFrameBelow reply
runs-above reply program words n below s k nowhere h =
    runs-same program words below nowhere reply n s k h

-- ---- a frame that stands nowhere

-- an offset behind those of all lines
past : List LinkedLine → ℕ
past [] = 0
past (l ∷ lines) = l.at + 1 + past lines

past-none : (lines : List LinkedLine) (at : ℕ) → past lines ≤ at → line_in lines at ≡ None
unfolding past
past-none [] at h = refl
past-none (l ∷ lines) at h =
    let other : (l.at == at) ≡ false = grind (arith, nat_tests) in
    ap (λ b. if b then Some l else line_in lines at) other ∙ past-none lines at (omega arith)

in-method : (method : Option LinkedMethod) → (at : ℕ) × (option_and_then (λ (method : LinkedMethod). line_in method.lines at) method ≡ None)
in-method None = (0, refl)
in-method (Some method) = (past method.lines, past-none method.lines (past method.lines) (omega arith))

pub some-nowhere : SomeFrameStandsNowhere
some-nowhere program =
    let there = in-method (program.method 0) in
    (record { method = 0; at = there.0; locals = λ i. unset; operands = [] }, there.1)
