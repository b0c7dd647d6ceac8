-- The runs of translated programs, from their start on, and from where their host enters them.
use Rattle.std.proofs.Common.{◌≡◌, ◌≢◌, ℕ, zero, suc, ◌+◌, ◌-◌, ◌*◌, ◌≤◌, Bool, true, false, List, Option, refl, ap, subst, ◌∙◌, arith}
use Rattle.std.proofs.lemmas.Bool.{false≢true}
use Rattle.run_definition.specs.Question.{Question}
use Rattle.run_definition.specs.Answer.{Answer}
use Rattle.run_definition.specs.Run.{Run, run_of}
use Rattle.run_definition.specs.Turn.{Turn}
use Rattle.run_definition.specs.declared.order.Order.{Order}
use Rattle.run_definition.specs.declared.outcome.Outcome.{Outcome}
use Rattle.run_definition.specs.declared.outcome.Outcome.TheVariants.{Going, Trapped}
use Rattle.nv_events.specs.Laws.{GivesFitting}
use Rattle.run_simulation_laws.specs.Turns.{LawOfTurn, Pair}
use Rattle.run_simulation_laws.specs.Meter.{metered}
use Rattle.run_simulation_laws.specs.Pairs.{by_meter, metered_pair}
use Rattle.run_simulation_laws.proofs.Comparing.{compared}
use Rattle.mips_definition.specs.State as guest
use Rattle.mips_definition.specs.Step as guest_step
use Rattle.mips_decode.proofs.GuestEnds.{guest-untrapped}
use Rattle.jvm_definition.specs.Program.{Program}
use Rattle.jvm_definition.specs.declared.value.Value.{Value}
use Rattle.jvm_definition.specs.Values.{Heap}
use Rattle.jvm_definition.specs.Step.{Frame, JvmState, jvm_start, jvm_turn}
use Rattle.jvm_run_laws.specs.Below.{above}
use Rattle.jvm_run_laws.specs.Laws.{RunsAs}
use Rattle.jvm_run_laws.proofs.FramesBelow.{runs-above, some-nowhere}
use Rattle.emit_loading_laws.specs.Loaded.{memory_turns}
use Rattle.trampoline_laws.specs.Classes.{CodeClass}
use Rattle.trampoline_laws.specs.Programs.{IsTranslated}
use Rattle.emit_program_laws.specs.Counted.{pair}
use Rattle.emit_program_laws.specs.Entered.{HoldsGuest, entered_over}
use Rattle.emit_program_laws.specs.Marks.{MarksPieces}
use Rattle.emit_program_laws.specs.Rests.{Rests}
use Rattle.emit_program_laws.specs.Translated.{LoadsWithin, guest_start}
use Rattle.emit_program_laws.specs.Turning.{TurnsAreFollowed}
use Rattle.emit_program_laws.proofs.GoingOn.{rests-above}
use Rattle.emit_program_laws.proofs.TranslationRuns.Counting.{allowed}
use Rattle.emit_program_laws.proofs.TranslationRuns.Given.{LoadingLaws}
use Rattle.emit_program_laws.proofs.TranslationRuns.Loading.{loads-to-rest}
use Rattle.emit_metered_laws.specs.Metering.{RestsByMeter, spent}
use Rattle.emit_metered_laws.specs.Programs.{LoadsByMeterWithin, resting}
use Rattle.emit_metered_laws.specs.Running.{MeteredProgramsFollow}
use Rattle.emit_metered_laws.specs.Slices.{HoldsByMeter}
use Rattle.emit_metered_laws.specs.Turning.{MeteredTurnsAreFollowed}
use Rattle.emit_metered_laws.proofs.Slices.Untrapped.{metered-untrapped}
use Rattle.emit_calls_laws.specs.Calls.{CallsAlike, MakeSameCall, makes_call}
use Rattle.emit_calls_laws.specs.Holding.{HoldsAtMeteredCall}
use Rattle.emit_calls_laws.specs.Running.{EnteredMetersHoldAtCalls, EnteredProgramsHoldAtCalls, HoldByMeter, MeteredProgramsHoldAtCalls, ProgramsHoldAtCalls}
use Rattle.emit_calls_laws.specs.Turning.{HoldThere, HoldThereByMeter, MeteredTurnsHoldAtCalls, TurnsHoldAtCalls}
use Rattle.emit_calls_laws.proofs.Above.{call-above, same-flipped, same-through}
use Rattle.emit_calls_laws.proofs.Calling.{leads-loading, leads-of, only_moves, rest-calls-alike, same-calls, start-calls-alike}
use Rattle.emit_calls_laws.proofs.Mirrored.{unmetered-call}

-- where no state is marked
abbrev unmarked : guest.State → Bool
unmarked s = false

none-marked : (classes : List CodeClass) → MarksPieces classes unmarked
none-marked classes = record {
  between = λ s e. absurd (false≢true e);
  in_class = λ s e. absurd (false≢true e);
  begin = λ s n c j k e there below first end at. absurd (false≢true e);
}

trap-is-over : (trap : ℕ) (o : Outcome) → o ≡ Trapped trap → o ≢ Going
trap-is-over trap o e going = cc

-- ---- a run that is another one, without a frame below

module _ {K : Type 0} (reply : K → Question → Option (Answer × K)) (program : Program) (words : ℕ) where
  abbrev machine : JvmState → Turn JvmState
  machine = jvm_turn program words

  alike-without : (below : Frame) (m first : ℕ) (At : ℕ → guest.State → JvmState → Type 0) (t : guest.State) (k : K) (run other : Run JvmState K) → RunsAs (above below) run other → ((n : ℕ) (u : guest.State) (s : JvmState) → At n u (above below s) → At n u s) → CallsAlike guest_step.turn machine reply m first At t k other → CallsAlike guest_step.turn machine reply m first At t k run
  alike-without below m first At t k run other same there alike goes calls =
      let s = run.last in
      let far = above below s in
      let near_call = call-above program words below s calls in
      let back : MakeSameCall (machine far) (machine s) = same-flipped (machine s) (machine far) near_call in
      let far_calls : makes_call (machine other.last) ≡ true = ap (λ z. makes_call (machine z)) same.last ∙ same-calls (machine far) (machine s) back in
      let r = alike (same.outcome ∙ goes) far_calls in
      record {
        turns = r.turns;
        no_later = r.no_later;
        made = r.made;
        made_is = r.made_is;
        goes = r.goes;
        questions = r.questions ∙ same.questions;
        system = r.system ∙ same.system;
        same_call = same-through (guest_step.turn r.made.last) (machine far) (machine s) (subst (λ z. MakeSameCall (guest_step.turn r.made.last) (machine z)) same.last r.same_call) back;
        held = λ from. there r.turns r.made.last s (subst (At r.turns r.made.last) same.last (r.held from));
      }

-- ---- without a meter

module _ {K : Type 0} (reply : K → Question → Option (Answer × K)) (fitting : GivesFitting reply) (turns : TurnsAreFollowed) (calls : TurnsHoldAtCalls) where
  pub programs-hold : LoadingLaws → ProgramsHoldAtCalls reply
  programs-hold laws t m k is =
      let extra = memory_turns t.shares t.fillers in
      let within : LoadsWithin t extra = omega arith in
      let machines = pair t.program t.words t.classes unmarked in
      let rest : guest.State → JvmState → Type 0 = Rests t.program t.words t.order t.choose t.classes t.code in
      let law : LawOfTurn machines rest 512 = turns t.program t.words t.order t.choose t.missing t.classes t.code unmarked is.code_is (none-marked t.classes) in
      let loads = loads-to-rest laws t is unmarked extra within in
      start-calls-alike guest_step.turn (jvm_turn t.program t.words) reply rest HoldThere fitting
      (λ g j rests. leads-of machines rest (λ n. 512 * n) g j (law g j rests))
      (calls t.program t.words t.order t.choose t.missing t.classes t.code is.code_is)
      m (guest_start t) (jvm_start t.program) k refl
      (leads-loading machines rest (extra + 2 * 512) allowed (guest_start t) (jvm_start t.program) loads)

  module _ (program : Program) (words : ℕ) (order : Order) (choose missing : ℕ) (classes : List CodeClass) (code : ℕ → Option ℕ) (is : IsTranslated false program order choose missing classes code) where
    abbrev Rest : guest.State → JvmState → Type 0
    Rest = Rests program words order choose classes code

    law : LawOfTurn (pair program words classes unmarked) Rest 512
    law = turns program words order choose missing classes code unmarked is (none-marked classes)

    never-trapped : (t : guest.State) (y : JvmState) (k : K) → Rest t y → (m trap : ℕ) → (run_of (jvm_turn program words) reply m y k).outcome ≢ Trapped trap
    never-trapped t y k rests m trap e =
        let back = (compared (pair program words classes unmarked) reply Rest 512 law fitting m m m (omega arith) t y k rests).back (omega arith) in
        let over = back.over (trap-is-over trap (run_of (jvm_turn program words) reply m y k).outcome e) in
        guest-untrapped reply m trap t k (over.1 ∙ e)

    entered : (fields : ℕ → Value) (heap : Heap) (t : guest.State) (m : ℕ) (k : K) → HoldsGuest order code choose fields heap t → CallsAlike guest_step.turn (jvm_turn program words) reply m 0 (λ n. HoldThere) t k (run_of (jvm_turn program words) reply m (entered_over choose fields heap) k)
    entered fields heap t m k h =
        let frame = some-nowhere program in
        let begins = entered_over choose fields heap in
        let there = above frame.0 begins in
        let rests : Rest t there = rests-above program words order choose classes code frame.0 fields heap t h in
        let same = runs-above reply program words m frame.0 begins k frame.1 (never-trapped t there k rests) in
        alike-without reply program words frame.0 m 0 (λ n. HoldThere) t k (run_of (jvm_turn program words) reply m begins k) (run_of (jvm_turn program words) reply m there k) same (λ n u s held. held)
        (rest-calls-alike guest_step.turn (jvm_turn program words) reply Rest HoldThere fitting (λ g j r. leads-of (pair program words classes unmarked) Rest (λ n. 512 * n) g j (law g j r))
        (calls program words order choose missing classes code is) m t there k rests)

  pub entered-hold : EnteredProgramsHoldAtCalls reply
  entered-hold program words order choose missing classes code fields heap t m k is h =
      entered program words order choose missing classes code is fields heap t m k h

-- ---- with a meter

-- what is left, told by the turns that were put on the meter
left-told : (turns n : ℕ) (t : guest.State) (y : JvmState) → n + 1 ≤ turns → HoldThereByMeter (turns - n, t) y → HoldByMeter turns n t y
left-told turns n t y some held =
    let e : turns - n - 1 ≡ turns - (n + 1) = omega (arith, some) in
    (some, subst (λ left. HoldsAtMeteredCall left t y) e held)

module _ {K : Type 0} (reply : K → Question → Option (Answer × K)) where
  -- a call of the guest with a meter is the guest's
  told-so : (program : Program) (words m first turns : ℕ) (t : guest.State) (k : K) (run : Run JvmState K) → CallsAlike (metered guest_step.turn spent) (jvm_turn program words) reply m first (λ n. HoldThereByMeter) (turns, t) k run → CallsAlike guest_step.turn (jvm_turn program words) reply m first (HoldByMeter turns) t k run
  told-so program words m first turns t k run alike goes calls =
      let own = unmetered-call guest_step.turn spent reply (jvm_turn program words) HoldThereByMeter m first turns t k run (alike goes calls) in
      record {
        turns = own.turns;
        no_later = own.no_later;
        made = own.made;
        made_is = own.made_is;
        goes = own.goes;
        questions = own.questions;
        system = own.system;
        same_call = own.same_call;
        held = λ from. let h = own.held from in left-told turns own.turns own.made.last run.last h.0 h.1;
      }

module _ {K : Type 0} (reply : K → Question → Option (Answer × K)) (fitting : GivesFitting reply) (calls : MeteredTurnsHoldAtCalls) where
  pub metered-programs-hold : MeteredProgramsFollow → MeteredProgramsHoldAtCalls reply
  metered-programs-hold follow p m k is =
      let t = p.translated in
      let start = memory_turns t.shares t.fillers + 25 in
      let within : LoadsByMeterWithin p start = omega arith in
      let f = follow p start is within in
      let machine = jvm_turn t.program t.words in
      let machines = metered_pair guest_step.turn machine spent in
      let rest : ℕ × guest.State → JvmState → Type 0 = by_meter (resting p) in
      told-so reply t.program t.words m 1 p.turns (guest_start t) k (run_of machine reply m (jvm_start t.program) k)
      (start-calls-alike (metered guest_step.turn spent) machine reply rest HoldThereByMeter fitting
      (λ g j rests. leads-of machines rest (λ n. 1024 * n) g j (f.turns g j rests))
      (calls t.program t.words t.order t.choose t.missing t.classes t.code is.code_is)
      m (p.turns, guest_start t) (jvm_start t.program) k (stays p.turns)
      (leads-of machines rest (λ n. start + 2 * 1024) (p.turns, guest_start t) (jvm_start t.program) f.begins))
    where
      stays : (n : ℕ) → only_moves (metered guest_step.turn spent (n, guest_start p.translated)) ≡ false
      stays zero = refl
      stays (suc n) = refl

  module _ (follow : MeteredTurnsAreFollowed) (program : Program) (words : ℕ) (order : Order) (choose missing : ℕ) (classes : List CodeClass) (code : ℕ → Option ℕ) (is : IsTranslated true program order choose missing classes code) where
    abbrev Resting : ℕ × guest.State → JvmState → Type 0
    Resting = by_meter (RestsByMeter program words order choose classes code)

    abbrev machines : Pair (ℕ × guest.State) JvmState ⊥
    machines = metered_pair guest_step.turn (jvm_turn program words) spent

    law-by-meter : LawOfTurn machines Resting 1024
    law-by-meter = follow program words order choose missing classes code is

    never-trapped-by-meter : (left : ℕ) (t : guest.State) (y : JvmState) (k : K) → Resting (left, t) y → (m trap : ℕ) → (run_of (jvm_turn program words) reply m y k).outcome ≢ Trapped trap
    never-trapped-by-meter left t y k rests m trap e =
        let back = (compared machines reply Resting 1024 law-by-meter fitting m m m (omega arith) (left, t) y k rests).back (omega arith) in
        let over = back.over (trap-is-over trap (run_of (jvm_turn program words) reply m y k).outcome e) in
        metered-untrapped reply trap left m t k (over.1 ∙ e)

    entered-by-meter : (fields : ℕ → Value) (heap : Heap) (t : guest.State) (left m : ℕ) (k : K) → HoldsByMeter order code choose left fields heap t → CallsAlike guest_step.turn (jvm_turn program words) reply m 0 (HoldByMeter left) t k (run_of (jvm_turn program words) reply m (entered_over choose fields heap) k)
    entered-by-meter fields heap t left m k h =
        let frame = some-nowhere program in
        let begins = entered_over choose fields heap in
        let there = above frame.0 begins in
        let rests : Resting (left, t) there = record {
          rests = rests-above program words order choose classes code frame.0 fields heap t h.holds;
          left_is = record { field = h.left_is; small = h.small };
        } in
        let same = runs-above reply program words m frame.0 begins k frame.1 (never-trapped-by-meter left t there k rests) in
        alike-without reply program words frame.0 m 0 (HoldByMeter left) t k (run_of (jvm_turn program words) reply m begins k) (run_of (jvm_turn program words) reply m there k) same
        (λ n u s h. (h.0, record { held = h.1.held; registers_are = h.1.registers_are; left_is = h.1.left_is }))
        (told-so reply program words m 0 left t k (run_of (jvm_turn program words) reply m there k)
        (rest-calls-alike (metered guest_step.turn spent) (jvm_turn program words) reply Resting HoldThereByMeter fitting (λ g j r. leads-of machines Resting (λ n. 1024 * n) g j (law-by-meter g j r))
        (calls program words order choose missing classes code is) m (left, t) there k rests))

  pub entered-meters-hold : MeteredTurnsAreFollowed → EnteredMetersHoldAtCalls reply
  entered-meters-hold follow program words order choose missing classes code fields heap t left m k is h =
      entered-by-meter follow program words order choose missing classes code is fields heap t left m k h
