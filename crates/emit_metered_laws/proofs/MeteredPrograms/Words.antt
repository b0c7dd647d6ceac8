-- At the code of a word the classes follow the guest with its meter.
use Rattle.std.proofs.Common.{◌≡◌, ℕ, ◌+◌, ◌-◌, ◌*◌, ◌<◌, ◌≤◌, ◌⊎◌, inl, inr, true, false, not, ◌&&◌, ◌||◌, ◌==◌, List, length, slice_get, Option, Some, refl, ap, sym, subst, ◌∙◌, arith}
use Rattle.std.proofs.lemmas.Bool.{cases_lt, false≢true}
use Rattle.run_definition.specs.Words.{IsWord}
use Rattle.run_definition.specs.declared.order.Order.{Order}
use Rattle.run_definition.specs.Turn.{ends, «fault»}
use Rattle.run_simulation_laws.specs.Trail.{advanced}
use Rattle.mips_definition.specs.State as guest
use Rattle.delay_slots.specs.declared.unit.Unit.{Unit}
use Rattle.delay_slots.specs.Units.{units_of}
use Rattle.delay_slots.specs.Turns as delay
use Rattle.delay_slots.specs.Turns.{HasRange, IsBetweenUnits, UnitTurns, last_turn, turn_count, unit_turn_count, unit_turns}
use Rattle.block_builder.specs.Blocks.{unit_at}
use Rattle.jvm_definition.specs.Program.{Program}
use Rattle.jvm_definition.specs.Effect.{Workspace, faults}
use Rattle.jvm_definition.specs.Step.{Frame, JvmState}
use Rattle.emit_steps.specs.declared.step.Step.{Step}
use Rattle.emit_steps.specs.Placing.{LiesAt}
use Rattle.emit_steps.specs.Outcomes.{stopped}
use Rattle.emit_steps.specs.Widths.{bytes_before, size}
use Rattle.emit_spans.specs.declared.span_words.SpanWords.{SpanWords}
use Rattle.emit_spans.specs.Neighbours.{address}
use Rattle.emit_spans.specs.Parts.{front_of, unit_part}
use Rattle.emit_spans.specs.Pieces.{begins}
use Rattle.emit_spans.specs.Standing.{unit_entry}
use Rattle.emit_paths_laws.specs.Paths.{PathWithin}
use Rattle.emit_simulation_laws.specs.Following.{ComesToEnd}
use Rattle.emit_simulation_laws.specs.Sites.{Site, stands, turn_in, whole_weight}
use Rattle.emit_simulation_laws.proofs.GuestFollows.Outcomes.{goes, here as here-at}
use Rattle.meter.specs.Guards.{guard_code, left_field}
use Rattle.meter_laws.specs.Laws.{StopsSpent}
use Rattle.meter_laws.specs.Meters.{HasLeft, leaving, spent_fault, with_spent}
use Rattle.emit_instructions_laws.specs.Steps.{GoesThroughSlot}
use Rattle.emit_spans_laws.specs.Following.{UnitIsFollowedBehindFront}
use Rattle.emit_spans_laws.specs.Resuming.{FollowsInSpan, Resumes}
use Rattle.emit_spans_laws.specs.Spans.{HasSpan, StandsAt}
use Rattle.trampoline_laws.specs.Classes.{CodeClass, is_span, span_words}
use Rattle.trampoline_laws.specs.Programs.{IsTranslated, StandsInProgram}
use Rattle.trampoline_laws.proofs.TrampolineLaws.Elements.{all-at}
use Rattle.emit_metered_laws.specs.Leaving.{LeavingInSpan}
use Rattle.emit_program_laws.specs.Entered.{IsGuest}
use Rattle.emit_program_laws.specs.Standing.{AtWord, IsBelow, span_site, word_entry}
use Rattle.emit_program_laws.proofs.TurnLaws.Following.{ForEach}
use Rattle.emit_program_laws.proofs.TurnLaws.Guest.{UnitMade, unit-made}
use Rattle.emit_program_laws.proofs.TurnLaws.Resting.{at-return, each-of, rests-at-run, rests-at-word, unit-there}
use Rattle.emit_program_laws.proofs.TurnLaws.Spans.{has-span, is-ready, stands-in}
use Rattle.emit_metered_laws.specs.Metering.{HasLeftIn, RestsByMeter, spent}
use Rattle.emit_metered_laws.specs.Spending.{Pays, PaysOrSpends, Spends, uncounted, unit_limit}
use Rattle.emit_metered_laws.proofs.MeteredPrograms.Given.{BetweenLaws, UnitLaws, WordLaws}
use Rattle.emit_metered_laws.proofs.MeteredPrograms.Left.{left-then, left-there}
use Rattle.emit_metered_laws.proofs.MeteredPrograms.Spending.{EndsAtUnit, at-unit, ends-at-unit}
use Rattle.emit_metered_laws.proofs.MeteredPrograms.Uncounted.{FollowsFor, Settles, paths-follow, unmarked}

module _ (unit_laws : UnitLaws) (laws : WordLaws) (between : BetweenLaws) (program : Program) (words : ℕ) (order : Order) (choose missing : ℕ) (classes : List CodeClass) (code : ℕ → Option ℕ) (is_in : IsTranslated true program order choose missing classes code) where
  abbrev Rest : ℕ → guest.State → JvmState → Type 0
  Rest = RestsByMeter program words order choose classes code

  -- they follow the guest's turns, or end as a spent meter does
  abbrev pub Comes : ℕ → ℕ → guest.State → JvmState → Type 0
  Comes most left t y = PaysOrSpends program words Rest most left t y

  -- ---- a span of a class

  module _ (number : ℕ) (c : CodeClass) (there : slice_get classes number ≡ Some c) (j : ℕ) (j_below : j < length c.spans) (others : List Frame) (below : IsBelow program words (is_span classes) choose c others) where
    abbrev site : Site
    site = span_site program words c j others

    abbrev own : SpanWords
    own = span_words c j

    abbrev all : List Unit
    all = units_of c.words

    has_span : HasSpan site c.words c.leads own
    has_span = has-span between.program program order choose missing classes code is_in number c there words j j_below others

    stands_in : StandsInProgram program code c
    stands_in = stands-in between.program program order choose missing classes code is_in number c there

    metered : c.metered ≡ true
    metered = all-at (λ (d : CodeClass). d.metered ≡ true) classes number c is_in.metered_are there

    few-frames : length others < 62
    few-frames = let e = ap length below.others_are in omega (arith, e)

    -- no piece begins with a word
    alone : (k : ℕ) → begins c.leads own k ≡ false
    alone k = ap (λ m. not m && (k == own.first || c.leads k)) metered

    -- ---- a word

    module _ (x : guest.State) (guest_is : IsGuest order code x) (k : ℕ) (w : Workspace) (s : StandsAt order own k w x) where
      abbrev unit : Unit
      unit = unit_at all k

      abbrev turns : UnitTurns
      turns = unit_turns unit x

      abbrev entry : ℕ
      entry = word_entry c j k

      abbrev behind : ℕ
      behind = unit_entry all c.leads own k

      abbrev guard_end : ℕ
      guard_end = entry + size (guard_code unit x.pc)

      in-range : k < length c.words
      in-range = let within = has_span.within in omega (arith, s.below, within)

      stands-here : delay.StandsAt x c.start c.words k
      stands-here = record {
        begun = guest_is.begun;
        pending = guest_is.pending;
        pc = s.pc;
        in_range = in-range;
        range = subst (λ (f : ℕ → Option ℕ). HasRange f c.start c.words) (sym guest_is.code_is) stands_in.range;
      }

      is-there : slice_get all k ≡ Some unit
      is-there = unit-there c.words k in-range

      slot : GoesThroughSlot x turns
      slot = unit_laws.slots x c.start c.words k stands-here

      own-turns : delay.AreMade x turns
      own-turns = unit_laws.made x c.start c.words k unit stands-here is-there

      own-count : turn_count turns ≡ unit_turn_count unit x
      own-count = unit_laws.counts x c.words k unit is-there

      made : UnitMade unmarked x turns
      made = unit-made unmarked (λ t is. absurd (false≢true is)) x turns own-turns slot

      here : UnitIsFollowedBehindFront site all c.leads own k w x
      here = laws.fronts site order c.words c.leads own k w x has_span s (alone k)

      -- the guard lies at the word's entry, and the unit's code behind it
      front-is : front_of own.metered unit (address own k) ≡ guard_code unit x.pc
      front-is = ap (λ m. front_of m unit (address own k)) metered ∙ ap (guard_code unit) (sym s.pc)

      guard-lies : LiesAt program site.method entry (guard_code unit x.pc)
      guard-lies = subst (LiesAt program site.method entry) front-is here.front

      behind-is : behind ≡ guard_end
      behind-is = ap (λ (steps : List Step). entry + size steps) front-is

      module _ (left : ℕ) (has : HasLeft left w) where
        -- ---- so many turns are left

        module _ (least : unit_turn_count unit x ≤ left) where
          abbrev then : ℕ
          then = left - unit_turn_count unit x

          abbrev paid_off : Workspace
          paid_off = leaving then w

          stands-paid : StandsAt order own k paid_off x
          stands-paid = record {
            above = s.above;
            below = s.below;
            rests = record { held = laws.kept 0 (λ r. true) w x then s.rests.held; no_operands = s.rests.no_operands };
            pc = s.pc;
            pending = s.pending;
            order_is = s.order_is;
          }

          left-paid : HasLeftIn then (stands site behind paid_off)
          left-paid = record { field = refl; small = let small = has.1 in omega (arith, small) }

          abbrev Behind : JvmState → guest.State → Type 0
          Behind = LeavingInSpan left_field paid_off.fields (Resumes site all c.leads own unit)

          -- what is left on the meter is left there while the unit's code runs
          left-behind : (y : JvmState) → y.fields left_field ≡ paid_off.fields left_field → HasLeftIn then y
          left-behind y same = record { field = same ∙ left-paid.field; small = left-paid.small }

          settles : (t : guest.State) → IsBetweenUnits x t → IsWord t.pc → (y : JvmState) → Behind y t → Settles program words (Rest then) 13 t y
          settles t next pc_word y (inl at_word, same) = record {
            more = 0;
            rest = y;
            comes = refl;
            rests = record {
              rests = rests-at-word program words order choose classes code x t guest_is next pc_word number c there j j_below others below y at_word;
              left_is = left-behind y same;
            };
            in_time = omega arith;
          }
          settles t next pc_word y (inr at_return, same) =
              let back = between.program.come_back program words classes choose t y (at-return program words order choose classes code x t guest_is next pc_word number c there j j_below others below unit y at_return) in
              record {
                more = back.turns;
                rest = back.after;
                comes = back.goes.comes;
                rests = record {
                  rests = rests-at-run program words order choose classes code x t guest_is next pc_word back.after back.arrives;
                  left_is = left-then program words (is_span classes) back.turns 0 0 then y back.after (between.fields program words left_field) back.goes (left-behind y same);
                };
                in_time = back.in_time;
              }

          abbrev SettlesAt : guest.State → Type 0
          SettlesAt t = (y : JvmState) → Behind y t → Settles program words (Rest then) 13 t y

          each : ForEach SettlesAt (last_turn turns)
          each = each-of x SettlesAt (last_turn turns) (unit_laws.leads x c.words k unit guest_is.begun is-there)
              (unit_laws.words x unit here.unit.has.lawful guest_is.pending s.rests.held.register_word) settles

          in-span : FollowsInSpan site behind (behind + size (unit_part all c.leads own k)) (turn_count turns) (264 * turn_count turns) (whole_weight order (unit_part all c.leads own k)) Behind (stands site behind paid_off) (last_turn turns)
          in-span = laws.behind site order c.words c.leads own k left_field paid_off x (omega arith) has_span (is-ready between.program program order choose missing classes code is_in number c there words j j_below others few-frames) stands-paid (alone k)

          unit-follows : FollowsFor (uncounted program words) (Rest then) unit_limit x (stands site behind paid_off) (made.made.earlier + 1)
          unit-follows =
              let count = made.count in
              paths-follow site (Rest then) x (last_turn turns) made.made behind (behind + size (unit_part all c.leads own k)) (264 * turn_count turns) 13 (whole_weight order (unit_part all c.leads own k)) Behind unit_limit (stands site behind paid_off) (omega (arith, count))
              (last_turn turns) refl each
              (subst (λ n. FollowsInSpan site behind (behind + size (unit_part all c.leads own k)) n (264 * turn_count turns) (whole_weight order (unit_part all c.leads own k)) Behind (stands site behind paid_off) (last_turn turns)) (sym count) in-span)

          -- behind the guard
          abbrev GuardEnds : Type 0
          GuardEnds = ComesToEnd site entry guard_end 1 12 (whole_weight order (guard_code unit x.pc)) (λ v. v ≡ paid_off) (stands site entry w)

          guard-ends : GuardEnds
          guard-ends = laws.paid unit site order (λ r. true) entry w x left guard-lies here.unit.has.knows s.rests.held has least

          word-pays : Pays program words Rest 12 left x (stands site entry w)
          word-pays =
              let e = guard-ends in
              let f = unit-follows in
              let first = f.turns in
              let count = made.count in
              let same = own-count in
              let there_is : stands site guard_end e.after ≡ stands site behind paid_off = ap (λ v. stands site guard_end v) e.arrives ∙ ap (λ at. stands site at paid_off) (sym behind-is) in
              record {
                first = e.turns;
                first_few = e.in_time;
                there = stands site behind paid_off;
                comes = e.path.comes ∙ ap (λ (z : JvmState). Some z) there_is;
                remain = then;
                follows = f.follows;
                taken_off = omega (arith, first, count, same, least);
              }

        -- ---- too few are left

        module _ (less : left < unit_turn_count unit x) where
          at_unit : EndsAtUnit x left
          at_unit =
              let own_is = own-count in
              let range = stands_in.range.below_end in
              let own_pc = s.pc in
              let within = in-range in
              ends-at-unit x turns left guest_is.pending (omega (arith, own_pc, range, within)) own-turns slot (omega (arith, own_is, less))

          guard-stops : StopsSpent program words (guard_code unit x.pc) w x.pc
          guard-stops = laws.unpaid unit program words (λ r. true) w x left x.pc here.unit.has.knows s.rests.held has less

          -- the guard is a path to where it ends the run
          abbrev place : ℕ
          place = bytes_before (guard_code unit x.pc) guard-stops.step

          path : PathWithin program words site.method entry 0 (guard_code unit x.pc) others (stands site (entry + 0) w) (stopped guard-stops.turns guard-stops.step (with_spent w x.pc) (faults (spent_fault x.pc)))
          path = goes laws.paths site order entry (guard_code unit x.pc) guard-lies 0 w (stopped guard-stops.turns guard-stops.step (with_spent w x.pc) (faults (spent_fault x.pc))) guard-stops.comes

          word-spends : Spends program words 12 left x (stands site entry w)
          word-spends =
              let some = guard-stops.some in
              let few = at_unit.few in
              let before = stands site (entry + place) (with_spent w x.pc) in
              let own_end : spent x ≡ «fault» (spent_fault x.pc) = at-unit x guest_is.pending in
              record {
                turns = guard-stops.turns;
                in_time = guard-stops.in_time;
                before = before;
                comes = subst (λ at. advanced (turn_in site) guard-stops.turns (stands site at w) ≡ Some before) (here-at entry) path.0.comes;
                ends_so = path.1.turns ∙ ap (λ z. ends z) (sym own_end);
                holds = record {
                  held = λ v is. between.held w v x (sym is.0) (sym is.1) s.rests.held;
                  left_is = record { field = has.0; small = has.1 };
                };
                few = few;
                guest_at = at_unit.at;
                guest_comes = at_unit.comes;
                same_unit = at_unit.ends_so ∙ sym own_end;
                no_sooner = omega (arith, some, few);
              }

        pub word-comes : Comes 12 left x (stands site entry w)
        word-comes = by_case (cases_lt left (unit_turn_count unit x))
          where
            by_case : (left < unit_turn_count unit x) ⊎ (unit_turn_count unit x ≤ left) → Comes 12 left x (stands site entry w)
            by_case (inl less) = inr (word-spends less)
            by_case (inr least) = inl (word-pays least)

  -- ---- where the classes stand at the code of a word

  pub word-turn : (left : ℕ) (t : guest.State) (y : JvmState) → IsGuest order code t → HasLeftIn left y → AtWord program words order classes choose y t → Comes 12 left t y
  word-turn left t y guest_is has s =
      let w = s.workspace in
      let entry = word_entry s.class s.span s.word in
      let site = span_site program words s.class s.span s.others in
      subst (Comes 12 left t) (sym s.is_there)
      (word-comes s.number s.class s.there s.span s.span_below s.others s.below t guest_is s.word w s.stands left
      (left-there left site.method entry w s.others y s.is_there has))
