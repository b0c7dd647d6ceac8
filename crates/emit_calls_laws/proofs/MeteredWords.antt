-- The law of calls of a program with a meter.
use Rattle.std.proofs.Common.{◌≡◌, ℕ, zero, suc, ◌+◌, ◌-◌, ◌*◌, ◌<◌, ◌≤◌, ◌⊎◌, inl, inr, true, false, if◌then◌else◌, not, ◌&&◌, ◌||◌, ◌==◌, List, length, slice_get, Option, Some, None, refl, ap, sym, subst, ◌∙◌, arith}
use Rattle.std.proofs.lemmas.Bool.{cases_lt, true≢false}
use Rattle.run_definition.specs.Words.{IsWord}
use Rattle.run_definition.specs.declared.order.Order.{Order}
use Rattle.run_definition.specs.Turn.{Turn, moves, ends, leaves, asks, «fault»}
use Rattle.run_simulation_laws.specs.Trail.{advanced, if_moves}
use Rattle.run_simulation_laws.specs.Meter.{metered, with_meter}
use Rattle.run_simulation_laws.proofs.Passing.{advanced_add}
use Rattle.run_simulation_laws.specs.Pairs.{by_meter}
use Rattle.mips_definition.specs.State as guest
use Rattle.mips_definition.specs.Step as guest_step
use Rattle.delay_slots.specs.declared.unit.Unit.{Unit}
use Rattle.delay_slots.specs.Laws.{UnitsAreMade, UnitsHaveTheirTurns, UnitsLeadOn}
use Rattle.delay_slots.specs.Units.{units_of}
use Rattle.delay_slots.specs.Turns as delay
use Rattle.delay_slots.specs.Turns.{AreMade, HasRange, IsBetweenUnits, LeadsOn, UnitTurns, last_turn, one_turn, two_turns, turn_count, unit_turn_count, unit_turns}
use Rattle.block_builder.specs.Blocks.{unit_at}
use Rattle.jvm_definition.specs.Program.{Program}
use Rattle.jvm_definition.specs.Effect.{Workspace}
use Rattle.jvm_definition.specs.Step.{Frame, JvmState, jvm_turn}
use Rattle.jvm_definition.specs.declared.value.Value.TheVariants.{Int as int}
use Rattle.emit_steps.specs.Placing.{LiesAt}
use Rattle.emit_steps.specs.Widths.{size}
use Rattle.emit_steps.specs.declared.step.Step.{Step}
use Rattle.emit_spans.specs.declared.span_words.SpanWords.{SpanWords}
use Rattle.emit_spans.specs.Neighbours.{address}
use Rattle.emit_spans.specs.Parts.{front_of, unit_part}
use Rattle.emit_spans.specs.Pieces.{begins}
use Rattle.emit_spans.specs.Standing.{unit_entry}
use Rattle.emit_paths_laws.specs.Classes.{puts}
use Rattle.emit_paths_laws.specs.Paths.{LooksAtNoTarget}
use Rattle.emit_simulation_laws.specs.Following.{ComesToEnd}
use Rattle.emit_simulation_laws.specs.Holding.{HoldsOn}
use Rattle.emit_simulation_laws.specs.Sites.{Site, stands, whole_weight}
use Rattle.emit_instructions_laws.proofs.PieceLaws.Sets.{none-kept}
use Rattle.emit_layout.specs.FieldNumbers.{register_field}
use Rattle.emit_instructions_laws.specs.Steps.{LeadsToWords, UnitsLeadToWords}
use Rattle.meter.specs.Guards.{guard_code, left_field}
use Rattle.meter_laws.specs.Meters.{HasLeft, leaving}
use Rattle.emit_spans_laws.specs.Following.{UnitIsFollowedBehindFront}
use Rattle.emit_spans_laws.specs.Resuming.{ComesTo, FollowsInSpan, Resumes}
use Rattle.emit_spans_laws.specs.Spans.{HasSpan, StandsAt}
use Rattle.trampoline_laws.proofs.TrampolineLaws.Elements.{all-at}
use Rattle.trampoline_laws.specs.Classes.{CodeClass, is_span, span_words}
use Rattle.trampoline_laws.specs.Coming.{stray_fault}
use Rattle.trampoline_laws.specs.Programs.{IsTranslated, StandsInProgram}
use Rattle.emit_program_laws.specs.Choosing.{ChoosesWords, ComesToWord}
use Rattle.emit_program_laws.specs.Entered.{IsGuest}
use Rattle.emit_program_laws.specs.Rests.{AtUnit, Rests, StandsSomewhere}
use Rattle.emit_program_laws.specs.Standing.{AtWord, IsBelow, span_site, word_entry}
use Rattle.emit_program_laws.proofs.TurnLaws.Resting.{at-return, rests-at-run, rests-at-word, unit-there}
use Rattle.emit_program_laws.proofs.TurnLaws.Spans.{has-span, is-ready, stands-in}
use Rattle.emit_metered_laws.specs.Leaving.{LeavingInSpan}
use Rattle.emit_metered_laws.specs.Metering.{HasLeftIn, RestsByMeter, spent}
use Rattle.emit_metered_laws.specs.Writing.{UnitsWriteLayout}
use Rattle.emit_metered_laws.proofs.MeteredPrograms.Given.{BetweenLaws, WordLaws}
use Rattle.emit_metered_laws.proofs.MeteredPrograms.Left.{left-then, left-there}
use Rattle.emit_calls_laws.specs.Calls.{ComesToCall, makes_call}
use Rattle.emit_calls_laws.specs.Holding.{HoldsRegisters, StandsHolding}
use Rattle.emit_calls_laws.specs.Turning.{HoldThereByMeter}
use Rattle.emit_calls_laws.specs.Units.{UnitsHoldAtCalls, last_state}
use Rattle.emit_calls_laws.proofs.Calling.{RestsLater}
use Rattle.emit_calls_laws.proofs.Steps.{ComesFirst, calling-first, comes-later, ending-first, moving-first}
use Rattle.emit_calls_laws.proofs.Words.{held-there}

-- what units do, write, and hold where they call
pub record UnitLaws : Type 0 where
  pub hold : UnitsHoldAtCalls
  pub write : UnitsWriteLayout
  pub counts : UnitsHaveTheirTurns
  pub words : UnitsLeadToWords
  pub made : UnitsAreMade
  pub leads : UnitsLeadOn

-- ---- a unit's turns as turns of a guest with a meter

abbrev by_it : ℕ × guest.State → Turn (ℕ × guest.State)
by_it = metered guest_step.turn spent

-- enough is on it
pub record Paid (left : ℕ) (x : guest.State) (turns : UnitTurns) : Type 0 where
  pub earlier : ℕ
  pub count : earlier + 1 ≡ turn_count turns
  pub comes : advanced by_it earlier (left, x) ≡ Some (left - earlier, last_state x turns)
  pub last_is : by_it (left - earlier, last_state x turns) ≡ with_meter (left - turn_count turns) (last_turn turns)

paid-turns : (left : ℕ) (x : guest.State) (turns : UnitTurns) → AreMade x turns → turn_count turns ≤ left → Paid left x turns
paid-turns zero x (one_turn last) is enough = absurd (omega (arith, enough))
paid-turns (suc left) x (one_turn last) is enough =
    let e : suc left - 0 ≡ suc left = omega arith in
    let f : suc left - 1 ≡ left = omega arith in
    record {
      earlier = 0;
      count = refl;
      comes = ap (λ n. Some (n, x)) (sym e);
      last_is = ap (λ n. by_it (n, x)) e ∙ ap (with_meter left) is ∙ ap (λ n. with_meter n last) (sym f);
    }
paid-turns zero x (two_turns s last) is enough = absurd (omega (arith, enough))
paid-turns (suc zero) x (two_turns s last) is enough = absurd (omega (arith, enough))
paid-turns (suc (suc left)) x (two_turns s last) is enough =
    let e : suc (suc left) - 1 ≡ suc left = omega arith in
    let f : suc (suc left) - 2 ≡ left = omega arith in
    record {
      earlier = 1;
      count = refl;
      comes = ap (λ t. if_moves (with_meter (suc left) t) None (advanced by_it 0)) is.0 ∙ ap (λ n. Some (n, s)) (sym e);
      last_is = ap (λ n. by_it (n, s)) e ∙ ap (with_meter left) is.1 ∙ ap (λ n. with_meter n last) (sym f);
    }

module _ (machine : JvmState → Turn JvmState) (Resting At : ℕ × guest.State → JvmState → Type 0) where
  abbrev First : ℕ × guest.State → JvmState → Type 0
  First = ComesFirst by_it machine Resting At

  -- too few are
  spent-turns : (left : ℕ) (x : guest.State) (turns : UnitTurns) (y : JvmState) → AreMade x turns → left < turn_count turns → First (left, x) y
  spent-turns zero x turns y is less = ending-first by_it machine Resting At (zero, x) (zero, x) y 0 refl (spent x) refl
  spent-turns (suc left) x (one_turn last) y is less = absurd (omega (arith, less))
  spent-turns (suc zero) x (two_turns s last) y is less =
      ending-first by_it machine Resting At (suc zero, x) (zero, s) y 1 (ap (λ t. if_moves (with_meter zero t) None (advanced by_it 0)) is.0) (spent s) refl
  spent-turns (suc (suc left)) x (two_turns s last) y is less = absurd (omega (arith, less))

  -- by the last turn
  module _ (left : ℕ) (x : guest.State) (turns : UnitTurns) (p : Paid left x turns) (y : JvmState) where
    abbrev before : ℕ × guest.State
    before = (left - p.earlier, last_state x turns)

    pub paid-first : (last : Turn guest.State) → last_turn turns ≡ last → (makes_call last ≡ true → ComesToCall machine (At before) y) → ((t : guest.State) → last ≡ moves t → RestsLater machine Resting (left - turn_count turns, t) y) → First (left, x) y
    paid-first (moves t) is calling moving = moving-first by_it machine Resting At (left, x) before y p.earlier p.comes (left - turn_count turns, t) (p.last_is ∙ ap (with_meter (left - turn_count turns)) is) (moving t refl)
    paid-first (ends e) is calling moving = ending-first by_it machine Resting At (left, x) before y p.earlier p.comes e (p.last_is ∙ ap (with_meter (left - turn_count turns)) is)
    paid-first (leaves q e) is calling moving = calling-first by_it machine Resting At (left, x) before y p.earlier p.comes (ap makes_call (p.last_is ∙ ap (with_meter (left - turn_count turns)) is)) (calling refl)
    paid-first (asks q next) is calling moving = calling-first by_it machine Resting At (left, x) before y p.earlier p.comes (ap makes_call (p.last_is ∙ ap (with_meter (left - turn_count turns)) is)) (calling refl)

-- ---- what is held

looks : (f : ℕ) → LooksAtNoTarget (puts f)
looks f name t u = refl

registers-of : (w : Workspace) (s : guest.State) → HoldsOn 0 (λ r. true) w s → HoldsRegisters w.fields s
registers-of w s h = λ r above below. sym (ap (λ b. if b then w.locals r else w.fields (register_field r)) (none-kept r)) ∙ h.register_is r above below refl

registers-there : (site : Site) (s : guest.State) (y : JvmState) → StandsHolding site 0 (λ r. true) s y → HoldsRegisters y.fields s
registers-there site s y c = subst (λ (z : JvmState). HoldsRegisters z.fields s) (sym c.is_there) (registers-of c.workspace s c.held)

-- ---- at the code of a word

module _ (unit_laws : UnitLaws) (laws : WordLaws) (between : BetweenLaws) (program : Program) (words : ℕ) (order : Order) (choose missing : ℕ) (classes : List CodeClass) (code : ℕ → Option ℕ) (is_in : IsTranslated true program order choose missing classes code) where
  abbrev Rest : ℕ × guest.State → JvmState → Type 0
  Rest = by_meter (RestsByMeter program words order choose classes code)

  abbrev machine : JvmState → Turn JvmState
  machine = jvm_turn program words

  abbrev Comes : ℕ × guest.State → JvmState → Type 0
  Comes = ComesFirst by_it machine Rest HoldThereByMeter

  module _ (number : ℕ) (c : CodeClass) (there : slice_get classes number ≡ Some c) (j : ℕ) (j_below : j < length c.spans) (others : List Frame) (below : IsBelow program words (is_span classes) choose c others) where
    abbrev site : Site
    site = span_site program words c j others

    abbrev own : SpanWords
    own = span_words c j

    abbrev all : List Unit
    all = units_of c.words

    has_span : HasSpan site c.words c.leads own
    has_span = has-span between.program program order choose missing classes code is_in number c there words j j_below others

    stands_in : StandsInProgram program code c
    stands_in = stands-in between.program program order choose missing classes code is_in number c there

    is_metered : c.metered ≡ true
    is_metered = all-at (λ (d : CodeClass). d.metered ≡ true) classes number c is_in.metered_are there

    few-frames : length others < 62
    few-frames = let e = ap length below.others_are in omega (arith, e)

    -- no piece begins with a word
    alone : (k : ℕ) → begins c.leads own k ≡ false
    alone k = ap (λ m. not m && (k == own.first || c.leads k)) is_metered

    module _ (x : guest.State) (guest_is : IsGuest order code x) (k : ℕ) (w : Workspace) (s : StandsAt order own k w x) (left : ℕ) (has : HasLeft left w) where
      abbrev unit : Unit
      unit = unit_at all k

      abbrev turns : UnitTurns
      turns = unit_turns unit x

      abbrev entry : ℕ
      entry = word_entry c j k

      abbrev behind : ℕ
      behind = unit_entry all c.leads own k

      abbrev guard_end : ℕ
      guard_end = entry + size (guard_code unit x.pc)

      stands-here : delay.StandsAt x c.start c.words k
      stands-here =
          let within = has_span.within in
          record {
            begun = guest_is.begun;
            pending = guest_is.pending;
            pc = s.pc;
            in_range = omega (arith, s.below, within);
            range = subst (λ (f : ℕ → Option ℕ). HasRange f c.start c.words) (sym guest_is.code_is) stands_in.range;
          }

      is-there : slice_get all k ≡ Some unit
      is-there = unit-there c.words k stands-here.in_range

      own-turns : AreMade x turns
      own-turns = unit_laws.made x c.start c.words k unit stands-here is-there

      own-count : turn_count turns ≡ unit_turn_count unit x
      own-count = unit_laws.counts x c.words k unit is-there

      here : UnitIsFollowedBehindFront site all c.leads own k w x
      here = laws.fronts site order c.words c.leads own k w x has_span s (alone k)

      -- the guard lies at the word's entry, and the unit's code behind it
      front-is : front_of own.metered unit (address own k) ≡ guard_code unit x.pc
      front-is = ap (λ m. front_of m unit (address own k)) is_metered ∙ ap (guard_code unit) (sym s.pc)

      guard-lies : LiesAt program site.method entry (guard_code unit x.pc)
      guard-lies = subst (LiesAt program site.method entry) front-is here.front

      behind-is : behind ≡ guard_end
      behind-is = ap (λ (steps : List Step). entry + size steps) front-is

      module _ (enough : turn_count turns ≤ left) where
        abbrev remain : ℕ
        remain = left - unit_turn_count unit x

        same-then : remain ≡ left - turn_count turns
        same-then = let e = own-count in omega (arith, e)

        abbrev paid_off : Workspace
        paid_off = leaving remain w

        kept : HoldsOn 0 (λ r. true) paid_off x
        kept = laws.kept 0 (λ r. true) w x remain s.rests.held

        stands-paid : StandsAt order own k paid_off x
        stands-paid = record {
          above = s.above;
          below = s.below;
          rests = record { held = kept; no_operands = s.rests.no_operands };
          pc = s.pc;
          pending = s.pending;
          order_is = s.order_is;
        }

        abbrev GuardEnds : Type 0
        GuardEnds = ComesToEnd site entry guard_end 1 12 (whole_weight order (guard_code unit x.pc)) (λ v. v ≡ paid_off) (stands site entry w)

        guard-ends : GuardEnds
        guard-ends = laws.paid unit site order (λ r. true) entry w x left guard-lies here.unit.has.knows s.rests.held has (let e = own-count in omega (arith, e, enough))

        to-unit : advanced machine guard-ends.turns (stands site entry w) ≡ Some (stands site behind paid_off)
        to-unit =
            let e = guard-ends in
            let there_is : stands site guard_end e.after ≡ stands site behind paid_off = ap (λ v. stands site guard_end v) e.arrives ∙ ap (λ at. stands site at paid_off) (sym behind-is) in
            e.path.comes ∙ ap (λ (z : JvmState). Some z) there_is

        -- ---- the unit calls the system

        calls : (p : Paid left x turns) → makes_call (last_turn turns) ≡ true → ComesToCall machine (HoldThereByMeter (left - p.earlier, last_state x turns)) (stands site behind paid_off)
        calls p calls_so =
            let d = unit_laws.hold unit site order 0 (λ r. true) behind paid_off x here.unit.has.lawful here.unit.has.lies here.unit.has.knows kept calls_so in
            let cost = d.weighs (puts left_field) (looks left_field) in
            let none = unit_laws.write order 0 x.pc unit here.unit.has.lawful left_field (omega arith) in
            let same : d.at.fields left_field ≡ paid_off.fields left_field = (between.fields program words left_field).trails d.turns (stands site behind paid_off) d.at d.comes (omega (arith, cost, none)) in
            let count = p.count in
            let later = same-then in
            let e : remain ≡ left - p.earlier - 1 = omega (arith, count, later) in
            record {
              turns = d.turns;
              at = d.at;
              comes = d.comes;
              calls = d.calls;
              held = record {
                held = held-there site 0 (λ r. true) (last_state x turns) d.at d.held;
                registers_are = registers-there site (last_state x turns) d.at d.held;
                left_is = same ∙ ap int e;
              };
            }

        -- ---- it moves on

        abbrev Behind : JvmState → guest.State → Type 0
        Behind = LeavingInSpan left_field paid_off.fields (Resumes site all c.leads own unit)

        -- what is left on the meter is left there while the unit's code runs
        left-behind : (y : JvmState) → y.fields left_field ≡ paid_off.fields left_field → HasLeftIn remain y
        left-behind y same = record { field = same; small = let small = has.1 in omega (arith, small) }

        settles : (t : guest.State) → IsBetweenUnits x t → IsWord t.pc → (y : JvmState) → Behind y t → RestsLater machine Rest (remain, t) y
        settles t next pc_word y (inl at_word, same) = record {
          more = 0;
          rest = y;
          comes = refl;
          rests = record {
            rests = rests-at-word program words order choose classes code x t guest_is next pc_word number c there j j_below others below y at_word;
            left_is = left-behind y same;
          };
        }
        settles t next pc_word y (inr return_there, same) =
            let back = between.program.come_back program words classes choose t y (at-return program words order choose classes code x t guest_is next pc_word number c there j j_below others below unit y return_there) in
            record {
              more = back.turns;
              rest = back.after;
              comes = back.goes.comes;
              rests = record {
                rests = rests-at-run program words order choose classes code x t guest_is next pc_word back.after back.arrives;
                left_is = left-then program words (is_span classes) back.turns 0 0 remain y back.after (between.fields program words left_field) back.goes (left-behind y same);
              };
            }

        in-span : FollowsInSpan site behind (behind + size (unit_part all c.leads own k)) (turn_count turns) (264 * turn_count turns) (whole_weight order (unit_part all c.leads own k)) Behind (stands site behind paid_off) (last_turn turns)
        in-span = laws.behind site order c.words c.leads own k left_field paid_off x (omega arith) has_span (is-ready between.program program order choose missing classes code is_in number c there words j j_below others few-frames) stands-paid (alone k)

        moving : (t : guest.State) → last_turn turns ≡ moves t → RestsLater machine Rest (left - turn_count turns, t) (stands site behind paid_off)
        moving t is =
            let comes : ComesTo site behind (behind + size (unit_part all c.leads own k)) (turn_count turns) (264 * turn_count turns) (whole_weight order (unit_part all c.leads own k)) (λ y. Behind y t) (stands site behind paid_off) = subst (λ (last : Turn guest.State). FollowsInSpan site behind (behind + size (unit_part all c.leads own k)) (turn_count turns) (264 * turn_count turns) (whole_weight order (unit_part all c.leads own k)) Behind (stands site behind paid_off) last) is in-span in
            let next : IsBetweenUnits x t = subst (λ (last : Turn guest.State). LeadsOn x last) is (unit_laws.leads x c.words k unit guest_is.begun is-there) in
            let word : IsWord t.pc = subst (λ (last : Turn guest.State). LeadsToWords last) is (unit_laws.words x unit here.unit.has.lawful guest_is.pending s.rests.held.register_word) in
            let r = settles t next word comes.after comes.arrives in
            subst (λ n. RestsLater machine Rest (n, t) (stands site behind paid_off)) same-then
            (record { more = comes.turns + r.more; rest = r.rest; comes = advanced_add machine comes.turns r.more (stands site behind paid_off) comes.after comes.path.comes ∙ r.comes; rests = r.rests })

        enough-first : Comes (left, x) (stands site entry w)
        enough-first =
            let p = paid-turns left x turns own-turns enough in
            comes-later by_it machine Rest HoldThereByMeter guard-ends.turns (left, x) (stands site entry w) (stands site behind paid_off) to-unit
            (paid-first machine Rest HoldThereByMeter left x turns p (stands site behind paid_off) (last_turn turns) refl (calls p) moving)

      pub word-first : Comes (left, x) (stands site entry w)
      word-first = by_case (cases_lt left (turn_count turns))
        where
          by_case : (left < turn_count turns) ⊎ (turn_count turns ≤ left) → Comes (left, x) (stands site entry w)
          by_case (inl less) = spent-turns machine Rest HoldThereByMeter left x turns (stands site entry w) own-turns less
          by_case (inr enough) = enough-first enough

  -- ---- from each state of rest

  word-turn : (left : ℕ) (t : guest.State) (y : JvmState) → IsGuest order code t → HasLeftIn left y → AtWord program words order classes choose y t → Comes (left, t) y
  word-turn left t y guest_is has s =
      let w = s.workspace in
      let entry = word_entry s.class s.span s.word in
      let site = span_site program words s.class s.span s.others in
      subst (Comes (left, t)) (sym s.is_there)
      (word-first s.number s.class s.there s.span s.span_below s.others s.below t guest_is s.word w s.stands left
      (left-there left site.method entry w s.others y s.is_there has))

  leads : ChoosesWords program words order choose missing classes code
  leads = between.program.lead true program words order choose missing classes code is_in

  chosen-turn : (left : ℕ) (t : guest.State) (y : JvmState) → IsGuest order code t → HasLeftIn left y → ComesToWord program words order choose classes t y → Comes (left, t) y
  chosen-turn left t y guest_is has c =
      let there = left-then program words (is_span classes) c.turns 0 1 left y c.after (between.fields program words left_field) c.goes has in
      comes-later by_it machine Rest HoldThereByMeter c.turns (left, t) y c.after c.goes.comes (word-turn left t c.after guest_is there c.arrives)

  stray-ends : (left : ℕ) (t : guest.State) (y : JvmState) → guest_step.turn t ≡ ends («fault» (stray_fault t.pc)) → Comes (left, t) y
  stray-ends zero t y is = ending-first by_it machine Rest HoldThereByMeter (zero, t) (zero, t) y 0 refl (spent t) refl
  stray-ends (suc left) t y is = ending-first by_it machine Rest HoldThereByMeter (suc left, t) (suc left, t) y 0 refl («fault» (stray_fault t.pc)) (ap (with_meter left) is)

  chooses-by : (left : ℕ) (t : guest.State) (y : JvmState) → IsGuest order code t → HasLeftIn left y → (word : Option ℕ) → code t.pc ≡ word → ((w : ℕ) → code t.pc ≡ Some w → ComesToWord program words order choose classes t y) → Comes (left, t) y
  chooses-by left t y guest_is has None is enters = stray-ends left t y (between.program.stray order code t guest_is (inr is))
  chooses-by left t y guest_is has (Some w) is enters = chosen-turn left t y guest_is has (enters w is)

  -- the classes stand in no piece, since none begins with a word
  in-no-piece : (t : guest.State) (y : JvmState) → AtUnit program words order classes choose y t → ⊥
  in-no-piece t y s =
      let c = s.class in
      let own = span_words c s.span in
      let is_metered : c.metered ≡ true = all-at (λ (d : CodeClass). d.metered ≡ true) classes s.number c is_in.metered_are s.there in
      true≢false (sym s.held.begin ∙ ap (λ m. not m && (s.word == own.first || c.leads s.word)) is_metered)

  rest-turn : (left : ℕ) (t : guest.State) (y : JvmState) → Rests program words order choose classes code t y → HasLeftIn left y → StandsSomewhere program words order classes choose y t → Comes (left, t) y
  rest-turn left t y r has (inl s) = word-turn left t y r.guest_is has s
  rest-turn left t y r has (inr (inl s)) = absurd (in-no-piece t y s)
  rest-turn left t y r has (inr (inr (inl s))) = chooses-by left t y r.guest_is has (code t.pc) refl (λ w is. leads.from_run t w y r.guest_is is r.pc_word s)
  rest-turn left t y r has (inr (inr (inr s))) = chooses-by left t y r.guest_is has (code t.pc) refl (λ w is. leads.from_choose t w y r.guest_is is s)

  pub calls-held : (s : ℕ × guest.State) (y : JvmState) → Rest s y → Comes s y
  calls-held (left, t) y r = rest-turn left t y r.rests r.left_is r.rests.stands
