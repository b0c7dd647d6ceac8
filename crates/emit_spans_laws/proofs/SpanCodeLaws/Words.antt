-- The code of a word with which no piece begins.
use Rattle.std.proofs.Common.{◌≡◌, ℕ, suc, ◌+◌, ◌*◌, ◌≤◌, ◌==◌, Bool, true, false, if◌then◌else◌, List, [], ◌∷◌, ◌++◌, length, map, Option, append_assoc, refl, ap, subst, sym, ◌∙◌, arith}
use Rattle.std.proofs.lemmas.Bool.{or_right}
use Rattle.std.proofs.lemmas.List.{map-append}
use Rattle.run_definition.specs.declared.order.Order.{Order}
use Rattle.mips_definition.specs.State.{State}
use Rattle.delay_slots.specs.declared.unit.Unit.{Unit as Word}
use Rattle.delay_slots.specs.declared.unit.Unit.TheVariants as units
use Rattle.delay_slots.specs.Units.{units_of}
use Rattle.delay_slots.specs.Turns.{UnitTurns, one_turn, two_turns, unit_turns, turn_count, last_turn}
use Rattle.block_builder.specs.Blocks.{unit_at}
use Rattle.block_builder.specs.Registers.{Register, general, special, unit_writes}
use Rattle.jvm_definition.specs.declared.instruction.Instruction.{Instruction}
use Rattle.jvm_definition.specs.Effect.{Workspace}
use Rattle.emit_steps.specs.declared.step.Step.{Step}
use Rattle.emit_steps.specs.Widths.{size}
use Rattle.emit_steps.specs.Placing.{LiesAt}
use Rattle.emit_steps.specs.Outcomes.{stays_within}
use Rattle.emit_instructions.specs.Units.{unit_code}
use Rattle.meter.proofs.GuardSizes.{guard-within}
use Rattle.word_emitter.specs.Exits.{follows}
use Rattle.emit_simulation_laws.specs.Knowing.{gaining, gained}
use Rattle.emit_simulation_laws.specs.Lawful.{IsLawful, KnownByUnit}
use Rattle.emit_simulation_laws.specs.UnitLaws.{NeededIsKnown, UnitsAreLawful}
use Rattle.emit_spans.specs.declared.span_words.SpanWords.{SpanWords}
use Rattle.emit_spans.specs.Pieces.{begins}
use Rattle.emit_spans.specs.Neighbours.{address, is_inner, next_such}
use Rattle.emit_spans.specs.Parts.{extent, exit_of, warm_part, front_of, unit_part, cold_part}
use Rattle.emit_spans.specs.Laying.{entry_at, targets_of, return_offset, laid_step, span_code}
use Rattle.emit_spans.specs.Standing.{laid_part, unit_entry}
use Rattle.emit_spans.proofs.SizeLemmas.{size-laid}
use Rattle.emit_spans.proofs.StandingLemmas.{word-stands}
use Rattle.emit_spans.proofs.StepMarks.{marks}
use Rattle.emit_spans.proofs.UnitMarks.{unit-marks, front-marks}
use Rattle.emit_simulation_laws.specs.Holding.{HoldsOn}
use Rattle.emit_simulation_laws.specs.Sites.{Site, stands, whole_weight}
use Rattle.emit_simulation_laws.specs.Following.{Follows}
use Rattle.emit_simulation_laws.specs.Laws.{PathLaws}
use Rattle.emit_simulation_laws.proofs.GuestFollows.Weights.{whole-both, size-both}
use Rattle.emit_instructions_laws.specs.Instructions.{IsReady}
use Rattle.emit_instructions_laws.specs.Units.{AllUnitsFollow, UnitArrives}
use Rattle.emit_instructions_laws.specs.Pieces.{HoldsAll, UnitGoal}
use Rattle.emit_instructions_laws.proofs.PieceLaws.Within.{unit-stays}
use Rattle.emit_spans_laws.specs.Resuming.{IsEntryOf, Resumes, FollowsInSpan}
use Rattle.emit_spans_laws.specs.Spans.{HasSpan, StandsAt, FollowsUnit, FollowsUnitBehindFront}
use Rattle.emit_spans_laws.proofs.SpanCodeLaws.Leading.{LeadsTo, unit-leads}
use Rattle.emit_spans_laws.proofs.SpanCodeLaws.Exits.{SaysEnd, says-end, exit-stays}
use Rattle.emit_spans_laws.proofs.SpanCodeLaws.Parts.{laid-unmarked, part-lies, cold-behind}
use Rattle.emit_spans_laws.proofs.SpanCodeLaws.Counting.{laid-weighs}
use Rattle.emit_spans_laws.proofs.SpanCodeLaws.Joining.{Reaches}
use Rattle.emit_spans_laws.proofs.SpanCodeLaws.Going.{goes-on}

-- ---- where all registers are known, more are not gained

all-gained : (written : List Register) (known : ℕ → Bool) → ((r : ℕ) → known r ≡ true) → (r : ℕ) → gained written known r ≡ true
all-gained [] known all r = all r
all-gained (general d ∷ written) known all r = all-gained written (gaining known d) (λ q. or_right (d == q) (known q) (all q)) r
all-gained (special name ∷ written) known all r = all-gained written known all r

holds-all : (known : ℕ → Bool) (u : Workspace) (t : State) → ((r : ℕ) → known r ≡ true) → HoldsOn 0 known u t → HoldsAll u t
holds-all known u t all h = record {
  register_is = λ r above below is. h.register_is r above below (all r);
  register_word = h.register_word;
  hi_is = h.hi_is;
  hi_word = h.hi_word;
  lo_is = h.lo_is;
  lo_word = h.lo_word;
  pc = h.pc;
  pc_is = h.pc_is;
  link_is = h.link_is;
  readable = h.readable;
  readable_is = h.readable_is;
  writable = h.writable;
  writable_is = h.writable_is;
  memory_held = h.memory_held;
}

abbrev pub all : ℕ → Bool
all r = true

held-all : (written : List Register) (u : Workspace) (t : State) → HoldsOn 0 (gained written all) u t → HoldsAll u t
held-all written u t h = holds-all (gained written all) u t (all-gained written all (λ r. refl)) h

pub unit-held : (unit : Word) (a : ℕ) (w u : Workspace) (t : State) → UnitArrives 0 all unit a w u t → HoldsAll u t
unit-held (units.Plain i) a w u t is = held-all (unit_writes (units.Plain i)) u t is.state.held
unit-held (units.Branch i slot) a w u t is = held-all (unit_writes (units.Branch i slot)) u t is.held
unit-held (units.SlotMissing i) a w u t is = held-all (unit_writes (units.SlotMissing i)) u t is.held
unit-held (units.SlotIsBranch i word) a w u t is = held-all (unit_writes (units.SlotIsBranch i word)) u t is.held
unit-held units.Call a w u t is = held-all (unit_writes units.Call) u t is.state.held
unit-held (units.Trap kind value) a w u t is = held-all (unit_writes (units.Trap kind value)) u t is.state.held

-- the goal that a unit says where its code has come to its end
pub unit-goal : (bank : ℕ) (known : ℕ → Bool) (unit : Word) (a : ℕ) (w u : Workspace) (t : State) → UnitArrives bank known unit a w u t
    → UnitGoal unit a w u t
unit-goal bank known (units.Plain i) a w u t is = is.state.kept.operands_kept
unit-goal bank known (units.Branch i slot) a w u t is = is.goal
unit-goal bank known (units.SlotMissing i) a w u t is = is.goal
unit-goal bank known (units.SlotIsBranch i word) a w u t is = is.goal
unit-goal bank known units.Call a w u t is = is.state.kept.operands_kept
unit-goal bank known (units.Trap kind value) a w u t is = is.state.kept.operands_kept

pub some-turn : (turns : UnitTurns) → 1 ≤ turn_count turns
some-turn (one_turn last) = omega arith
some-turn (two_turns slot last) = omega arith

-- ---- units of words

pub units-length : (words : List ℕ) → length (units_of words) ≡ length words
units-length [] = refl
units-length (word ∷ words) = ap suc (units-length words)

-- no branch goes past the end of what stands in front of a unit
front-stays : (metered : Bool) (unit : Word) (at : ℕ) → stays_within (front_of metered unit at) ≡ true
front-stays true unit at = guard-within unit at
front-stays false unit at = refl

-- the laws that are needed
pub record UnitLaws : Type 1 where
  pub paths : PathLaws
  pub follow : AllUnitsFollow
  pub lawful : UnitsAreLawful
  pub known : NeededIsKnown

module _ (laws : UnitLaws) (site : Site) (order : Order) (words : List ℕ) (leads : ℕ → Bool) (span : SpanWords) (has : HasSpan site words leads span)
    (k : ℕ) (w : Workspace) (x : State) (s : StandsAt order span k w x) where
  abbrev unit_list : List Word
  unit_list = units_of words

  abbrev unit : Word
  unit = unit_at unit_list k

  abbrev entry : ℕ
  entry = entry_at unit_list leads span k

  abbrev front : List Step
  front = front_of span.metered unit (address span k)

  abbrev at : ℕ
  at = unit_entry unit_list leads span k

  -- without a meter nothing stands in front
  pub at-entry : span.metered ≡ false → at ≡ entry
  at-entry plain =
      let none : size front ≡ 0 = ap (λ m. size (front_of m unit (address span k))) plain in
      omega (arith, none)

  abbrev L : Step → Step
  L = laid_step (extent span) (targets_of unit_list leads span) (return_offset unit_list leads span)

  pub is-lawful : IsLawful unit
  is-lawful =
      let count = units-length words in
      let within = has.within in
      let below = s.below in
      laws.lawful words has.are_words has.no_float k units.Call (omega (arith, count, within, below))

  pub is-known : KnownByUnit all unit
  is-known = laws.known unit all is-lawful (λ r above below needed. refl)

  module _ (inner : begins leads span k ≡ false) where
    abbrev first : List Step
    first = unit_code 0 unit (address span k)

    abbrev behind : Option ℕ
    behind = next_such (is_inner leads span) span k

    abbrev exit : List Step
    exit = map L (exit_of unit_list span behind k)

    unmarked : (code : List Step) → marks code ≤ 0 → map L code ≡ code
    unmarked code none = laid-unmarked (extent span) (targets_of unit_list leads span) (return_offset unit_list leads span) code none

    part-is : laid_part unit_list leads span k ≡ front ++ (first ++ exit)
    part-is =
        ap (λ b. map L (if b then warm_part unit_list leads span k else cold_part unit_list leads span k)) inner
        ∙ map-append L front (unit_part unit_list leads span k)
        ∙ ap (λ c. c ++ map L (unit_part unit_list leads span k)) (unmarked front (front-marks span.metered unit (address span k)))
        ∙ ap (λ c. front ++ c) (map-append L first (exit_of unit_list span behind k))
        ∙ ap (λ c. front ++ (c ++ exit)) (unmarked first (unit-marks 0 unit (address span k)))

    parts-lie : LiesAt site.program site.method entry front × LiesAt site.program site.method at first
        × LiesAt site.program site.method (at + size first) exit
    parts-lie =
        let stands_there = word-stands unit_list leads span k s.above s.below in
        let whole = subst (LiesAt site.program site.method entry) (append_assoc front (first ++ exit) stands_there.behind)
        (subst (λ code. LiesAt site.program site.method entry (code ++ stands_there.behind)) part-is
        (part-lies site.program site.method entry (span_code unit_list leads span) (laid_part unit_list leads span k) stands_there has.lies)) in
        let parts = laws.paths.parts site.program site.method entry front ((first ++ exit) ++ stands_there.behind)
        (front-stays span.metered unit (address span k)) whole in
        let both = laws.paths.parts site.program site.method at first (exit ++ stands_there.behind) (unit-stays 0 unit (address span k))
        (subst (LiesAt site.program site.method at) (append_assoc first exit stands_there.behind) parts.1) in (
          parts.0,
          both.0,
          (laws.paths.parts site.program site.method (at + size first) exit stands_there.behind
              (exit-stays unit_list leads span behind unit (address span k)) both.1).0,
        )

    pub front-lies : LiesAt site.program site.method entry front
    front-lies = parts-lie.0

    pub unit-lies : LiesAt site.program site.method at (unit_code 0 unit x.pc)
    unit-lies = subst (λ pc. LiesAt site.program site.method at (unit_code 0 unit pc)) (sym s.pc) parts-lie.1

    -- where the exit ends the code of the next word begins, if it is to follow
    next-is : (b : ℕ) → follows behind b ≡ true → IsEntryOf unit_list leads span (at + size first + size exit) b
    next-is b is =
        let sizes : size (front ++ (first ++ exit)) ≡ size (cold_part unit_list leads span k) =
        ap size (sym part-is ∙ ap (λ b. map L (if b then warm_part unit_list leads span k else cold_part unit_list leads span k)) inner)
        ∙ size-laid (extent span) (targets_of unit_list leads span) (return_offset unit_list leads span) (cold_part unit_list leads span k) in
        let joined = size-both front (first ++ exit) in
        let both = size-both first exit in
        let end : entry + size (cold_part unit_list leads span k) ≡ at + size first + size exit = omega (arith, sizes, joined, both) in
        subst (λ at. IsEntryOf unit_list leads span at b) end (cold-behind unit_list leads span k s.above s.below inner b is)

    -- the classes follow the unit to where they go on, if its code follows it
    pub word-goes : (n most : ℕ) (total all_weight : (Instruction → ℕ) → ℕ) (later : ℕ) → most + 4 ≤ later
        → ((weight : Instruction → ℕ) → total weight + whole_weight order exit weight ≤ all_weight weight)
        → Follows site at (at + size (unit_code 0 unit x.pc)) n most total (UnitArrives 0 all unit x.pc w) (stands site at w)
        (last_turn (unit_turns unit x))
        → FollowsInSpan site at (at + size first + size exit) n later all_weight (Resumes site unit_list leads span unit) (stands site at w)
        (last_turn (unit_turns unit x))
    word-goes n most total all_weight later few weighs follows =
        goes-on laws.paths site order unit_list leads span behind unit (address span k) (omega arith) (at + size first) next-is at n most total
        all_weight w (last_turn (unit_turns unit x)) later few weighs parts-lie.2
        (record {
          First = UnitArrives 0 all unit x.pc w;
          follows = subst (λ pc. Follows site at (at + size (unit_code 0 unit pc)) n most total (UnitArrives 0 all unit x.pc w) (stands site at w)
              (last_turn (unit_turns unit x))) s.pc follows;
          held = λ u t is. unit-held unit x.pc w u t is;
          says = λ u t goes is.
              subst (λ a. SaysEnd unit a u t) s.pc
              (says-end unit x.pc w u t s.rests.no_operands (unit-goal 0 all unit x.pc w u t is));
          leads_to = subst (λ pc. Reaches (λ (t : State). LeadsTo unit pc t.pc) (last_turn (unit_turns unit x))) s.pc
              (unit-leads unit x is-lawful s.pending);
        })

    -- to the end of the word's code, by paths that weigh no more than some code
    word-ends : IsReady site order → (high : ℕ) (code : List Step) → at + size first + size exit ≡ high
        → ((weight : Instruction → ℕ) → whole_weight order first weight + whole_weight order exit weight ≤ whole_weight order code weight)
        → FollowsInSpan site at high (turn_count (unit_turns unit x)) (264 * turn_count (unit_turns unit x)) (whole_weight order code)
        (Resumes site unit_list leads span unit) (stands site at w) (last_turn (unit_turns unit x))
    word-ends ready high code end weighs =
        let n : ℕ = turn_count (unit_turns unit x) in
        let some = some-turn (unit_turns unit x) in
        let weighs_here : (weight : Instruction → ℕ)
        → whole_weight order (unit_code 0 unit x.pc) weight + whole_weight order exit weight ≤ whole_weight order code weight = λ weight.
        let own : whole_weight order (unit_code 0 unit x.pc) weight ≡ whole_weight order first weight =
        ap (λ pc. whole_weight order (unit_code 0 unit pc) weight) s.pc in
        let few = weighs weight in
        omega (arith, own, few) in
        subst (λ high. FollowsInSpan site at high n (264 * n) (whole_weight order code) (Resumes site unit_list leads span unit) (stands site at w)
        (last_turn (unit_turns unit x))) end
        (word-goes n (132 * n) (whole_weight order (unit_code 0 unit x.pc)) (whole_weight order code) (264 * n) (omega (arith, some)) weighs_here
        (laws.follow unit is-lawful site order 0 all at w x ready s.order_is unit-lies is-known s.rests.held))

    pub word-follows : IsReady site order → span.metered ≡ false → FollowsUnit site order unit_list leads span k w x
    word-follows ready plain =
        let n : ℕ = turn_count (unit_turns unit x) in
        let laid = laid_part unit_list leads span k in
        let sizes : size laid ≡ size (front ++ (first ++ exit)) = ap size part-is in
        let joined = size-both front (first ++ exit) in
        let both = size-both first exit in
        let end : at + size first + size exit ≡ entry + size laid = omega (arith, sizes, joined, both) in
        let weighs : (weight : Instruction → ℕ)
        → whole_weight order first weight + whole_weight order exit weight ≤ whole_weight order laid weight = λ weight.
        let whole : whole_weight order laid weight ≡ whole_weight order (front ++ (first ++ exit)) weight =
        ap (λ code. whole_weight order code weight) part-is in
        let outer = whole-both order weight front (first ++ exit) in
        let sum = whole-both order weight first exit in
        omega (arith, whole, outer, sum) in
        subst (λ low. FollowsInSpan site low (entry + size laid) n (264 * n) (whole_weight order laid) (Resumes site unit_list leads span unit)
        (stands site low w) (last_turn (unit_turns unit x))) (at-entry plain)
        (word-ends ready (entry + size laid) laid end weighs)

    pub word-follows-behind : IsReady site order → FollowsUnitBehindFront site order unit_list leads span k w x
    word-follows-behind ready =
        let own = unit_part unit_list leads span k in
        let way = exit_of unit_list span behind k in
        let laid = size-laid (extent span) (targets_of unit_list leads span) (return_offset unit_list leads span) way in
        let both = size-both first way in
        let weighs : (weight : Instruction → ℕ)
        → whole_weight order first weight + whole_weight order exit weight ≤ whole_weight order own weight = λ weight.
        let same = laid-weighs order weight (extent span) (targets_of unit_list leads span) (return_offset unit_list leads span) way in
        let sum = whole-both order weight first way in
        omega (arith, same, sum) in
        word-ends ready (at + size own) own (omega (arith, laid, both)) weighs
