-- The law of calls of a program without a meter.
use Rattle.std.proofs.Common.{◌≡◌, ℕ, ◌+◌, ◌*◌, ◌<◌, ◌⊎◌, inl, inr, Bool, true, false, List, [], ◌∷◌, ◌++◌, length, length-append, slice_get, Option, Some, None, refl, ap, sym, subst, ◌∙◌, arith}
use Rattle.run_definition.specs.Words.{IsWord}
use Rattle.run_definition.specs.declared.order.Order.{Order}
use Rattle.run_definition.specs.Turn.{Turn, moves, «fault»}
use Rattle.run_simulation_laws.specs.Trail.{advanced}
use Rattle.run_simulation_laws.proofs.Passing.{advanced_add}
use Rattle.mips_definition.specs.State as guest
use Rattle.mips_definition.specs.Step as guest_step
use Rattle.delay_slots.specs.declared.unit.Unit.{Unit}
use Rattle.delay_slots.specs.Laws.{UnitsAreMade, UnitsLeadOn}
use Rattle.delay_slots.specs.Units.{units_of}
use Rattle.delay_slots.specs.Turns as delay
use Rattle.delay_slots.specs.Turns.{HasRange, IsBetweenUnits, LeadsOn, unit_turns, turn_count, last_turn}
use Rattle.block_builder.specs.Blocks.{unit_at}
use Rattle.jvm_definition.specs.declared.instruction.Instruction.{Instruction}
use Rattle.jvm_definition.specs.Program.{Program}
use Rattle.jvm_definition.specs.Effect.{Workspace}
use Rattle.jvm_definition.specs.Step.{Frame, JvmState, jvm_turn}
use Rattle.word_emitter.specs.Pieces.{bank_of}
use Rattle.emit_spans.specs.declared.span_words.SpanWords.{SpanWords}
use Rattle.emit_spans.specs.Neighbours.{address}
use Rattle.emit_spans.specs.Pieces.{begins}
use Rattle.emit_steps.specs.declared.step.Step.{Step}
use Rattle.emit_instructions.specs.Units.{unit_code}
use Rattle.emit_simulation_laws.specs.Holding.{HoldsOn}
use Rattle.emit_simulation_laws.specs.Following as unit_follows
use Rattle.emit_simulation_laws.specs.Sites.{Site, stands, whole_weight}
use Rattle.emit_instructions_laws.specs.Steps.{LeadsToWords, UnitsLeadToWords}
use Rattle.emit_instructions_laws.specs.Units.{AllUnitsFollow}
use Rattle.emit_spans_laws.specs.Following.{InnerUnitsAreFollowed, LastUnitsAreFollowed, PiecesAreEntered, UnitFollowsBy, UnitGoesOn, WordsAloneAreFollowed}
use Rattle.emit_spans_laws.specs.InPieces.{HasUnit, StandsInPiece, UnitsStandInPieces, known_behind, offset_in, own_units}
use Rattle.emit_spans_laws.specs.Resuming.{ComesTo, FollowsInSpan, Resumes}
use Rattle.emit_spans_laws.specs.Spans.{HasSpan, StandsAt}
use Rattle.trampoline_laws.proofs.TrampolineLaws.Elements.{all-at}
use Rattle.trampoline_laws.specs.Classes.{CodeClass, is_span, span_words}
use Rattle.trampoline_laws.specs.Coming.{stray_fault}
use Rattle.trampoline_laws.specs.Programs.{IsTranslated}
use Rattle.emit_program_laws.specs.Choosing.{ChoosesWords, ComesToWord}
use Rattle.emit_program_laws.specs.Entered.{IsGuest}
use Rattle.emit_program_laws.specs.Rests.{AtUnit, Rests, StandsSomewhere}
use Rattle.emit_program_laws.specs.Standing.{AtWord, IsBelow, span_site, word_entry}
use Rattle.emit_program_laws.proofs.TurnLaws.Given.{ProgramLaws}
use Rattle.emit_program_laws.proofs.TurnLaws.Guest.{either}
use Rattle.emit_program_laws.proofs.TurnLaws.Resting.{at-return, guest-next, rests-at-run, rests-at-word, unit-there}
use Rattle.emit_program_laws.proofs.TurnLaws.Spans.{has-span, is-ready, stands-in}
use Rattle.emit_calls_laws.specs.Calls.{ComesToCall}
use Rattle.emit_calls_laws.specs.Holding.{HoldsAtCall, StandsHolding}
use Rattle.emit_calls_laws.specs.Turning.{HoldThere}
use Rattle.emit_calls_laws.specs.Units.{CodeComesToCall, UnitsHoldAtCalls, last_state}
use Rattle.emit_calls_laws.proofs.Calling.{RestsLater}
use Rattle.emit_calls_laws.proofs.Steps.{ComesFirst, GuestMakes, by-last-turn, comes-later, guest-makes}

-- what units do, and hold where they call
pub record UnitLaws : Type 0 where
  pub hold : UnitsHoldAtCalls
  pub made : UnitsAreMade
  pub leads : UnitsLeadOn
  pub words : UnitsLeadToWords

-- what the method of a span does unit by unit
pub record SpanLaws : Type 0 where
  pub units : AllUnitsFollow
  pub alone : WordsAloneAreFollowed
  pub enters : PiecesAreEntered
  pub in_pieces : UnitsStandInPieces
  pub inner : InnerUnitsAreFollowed
  pub last : LastUnitsAreFollowed

-- ---- what is held at a call

pub held-of : (bank : ℕ) (known : ℕ → Bool) (w : Workspace) (s : guest.State) → HoldsOn bank known w s → HoldsAtCall w.fields w.heap s
held-of bank known w s h = record {
  hi_is = h.hi_is;
  hi_word = h.hi_word;
  lo_is = h.lo_is;
  lo_word = h.lo_word;
  link_is = h.link_is;
  readable = h.readable;
  readable_is = h.readable_is;
  writable = h.writable;
  writable_is = h.writable_is;
  memory_held = h.memory_held;
  register_word = h.register_word;
}

pub held-there : (site : Site) (bank : ℕ) (known : ℕ → Bool) (s : guest.State) (y : JvmState) → StandsHolding site bank known s y → HoldThere s y
held-there site bank known s y c = subst (HoldThere s) (sym c.is_there) (held-of bank known c.workspace s c.held)

call-there : (site : Site) (order : Order) (code : List Step) (bank : ℕ) (known : ℕ → Bool) (s : guest.State) (x : JvmState) → CodeComesToCall site order code bank known s x → ComesToCall (jvm_turn site.program site.words) (HoldThere s) x
call-there site order code bank known s x c = record { turns = c.turns; at = c.at; comes = c.comes; calls = c.calls; held = held-there site bank known s c.at c.held }

-- ---- by the turns of a unit

module _ (program_laws : ProgramLaws) (program : Program) (words : ℕ) (order : Order) (choose : ℕ) (classes : List CodeClass) (code : ℕ → Option ℕ) where
  abbrev Rest : guest.State → JvmState → Type 0
  Rest = Rests program words order choose classes code

  abbrev machine : JvmState → Turn JvmState
  machine = jvm_turn program words

  abbrev First : guest.State → JvmState → Type 0
  First = ComesFirst guest_step.turn machine Rest HoldThere

  module _ (number : ℕ) (c : CodeClass) (there : slice_get classes number ≡ Some c) (j : ℕ) (j_below : j < length c.spans) (others : List Frame) (below : IsBelow program words (is_span classes) choose c others) (x t : guest.State) (guest_is : IsGuest order code x) (between : IsBetweenUnits x t) (pc_word : IsWord t.pc) where
    abbrev site : Site
    site = span_site program words c j others

    pub settles : (unit : Unit) (y : JvmState) → Resumes site (units_of c.words) c.leads (span_words c j) unit y t → RestsLater machine Rest t y
    settles unit y (inl at_word) = record {
      more = 0;
      rest = y;
      comes = refl;
      rests = rests-at-word program words order choose classes code x t guest_is between pc_word number c there j j_below others below y at_word;
    }
    settles unit y (inr return_there) =
        let back = program_laws.come_back program words classes choose t y (at-return program words order choose classes code x t guest_is between pc_word number c there j j_below others below unit y return_there) in
        record {
          more = back.turns;
          rest = back.after;
          comes = back.goes.comes;
          rests = rests-at-run program words order choose classes code x t guest_is between pc_word back.after back.arrives;
        }

  pub after-path : (t : guest.State) (n : ℕ) (x y : JvmState) → advanced machine n x ≡ Some y → RestsLater machine Rest t y → RestsLater machine Rest t x
  after-path t n x y comes r = record { more = n + r.more; rest = r.rest; comes = advanced_add machine n r.more x y comes ∙ r.comes; rests = r.rests }

module _ (unit_laws : UnitLaws) (laws : SpanLaws) (program_laws : ProgramLaws) (program : Program) (words : ℕ) (order : Order) (choose missing : ℕ) (classes : List CodeClass) (code : ℕ → Option ℕ) (is_in : IsTranslated false program order choose missing classes code) where
  abbrev Resting : guest.State → JvmState → Type 0
  Resting = Rests program words order choose classes code

  abbrev turns : JvmState → Turn JvmState
  turns = jvm_turn program words

  abbrev Comes : guest.State → JvmState → Type 0
  Comes = ComesFirst guest_step.turn turns Resting HoldThere

  module _ (number : ℕ) (c : CodeClass) (there : slice_get classes number ≡ Some c) (j : ℕ) (j_below : j < length c.spans) (others : List Frame) (below : IsBelow program words (is_span classes) choose c others) where
    abbrev here : Site
    here = span_site program words c j others

    abbrev own : SpanWords
    own = span_words c j

    abbrev all : List Unit
    all = units_of c.words

    few-frames : length others < 62
    few-frames = let e = ap length below.others_are in omega (arith, e)

    has_span : HasSpan here c.words c.leads own
    has_span = has-span program_laws program order choose missing classes code is_in number c there words j j_below others

    -- ---- one unit

    module _ (x : guest.State) (guest_is : IsGuest order code x) (k : ℕ) (less : k < own.end) (pc : x.pc ≡ address own k) (bank : ℕ) (known : ℕ → Bool) (at : ℕ) (w : Workspace) (unit : Unit) (held : HoldsOn bank known w x) (has : HasUnit here all own k bank known at unit x) where
      stands-here : delay.StandsAt x c.start c.words k
      stands-here =
          let within = has_span.within in
          record {
            begun = guest_is.begun;
            pending = guest_is.pending;
            pc = pc;
            in_range = omega (arith, less, within);
            range = subst (λ (f : ℕ → Option ℕ). HasRange f c.start c.words) (sym guest_is.code_is) (stands-in program_laws program order choose missing classes code is_in number c there).range;
          }

      is-there : slice_get all k ≡ Some unit
      is-there = unit-there c.words k stands-here.in_range ∙ ap (λ (u : Unit). Some u) (sym has.is_there)

      makes : GuestMakes x (unit_turns unit x)
      makes = guest-makes x (unit_turns unit x) (unit_laws.made x c.start c.words k unit stands-here is-there)

      pub follows : UnitFollowsBy here bank known at (whole_weight order (unit_code bank unit x.pc)) unit w x
      follows = laws.units unit has.lawful here order bank known at w x (is-ready program_laws program order choose missing classes code is_in number c there words j j_below others few-frames) guest_is.order_is has.lies has.knows held

      pub between : (t : guest.State) → last_turn (unit_turns unit x) ≡ moves t → IsBetweenUnits x t
      between t is = subst (λ (last : Turn guest.State). LeadsOn x last) is (unit_laws.leads x c.words k unit guest_is.begun is-there)

      pub word-next : (t : guest.State) → last_turn (unit_turns unit x) ≡ moves t → IsWord t.pc
      word-next t is = subst (λ (last : Turn guest.State). LeadsToWords last) is (unit_laws.words x unit has.lawful guest_is.pending held.register_word)

      pub unit-first : ((t : guest.State) → last_turn (unit_turns unit x) ≡ moves t → RestsLater turns Resting t (stands here at w)) → Comes x (stands here at w)
      unit-first moving =
          by-last-turn guest_step.turn turns Resting HoldThere x (last_state x (unit_turns unit x)) (stands here at w) makes.earlier makes.comes (last_turn (unit_turns unit x)) makes.last_is
          (λ calls_so. call-there here order (unit_code bank unit x.pc) bank known (last_state x (unit_turns unit x)) (stands here at w) (unit_laws.hold unit here order bank known at w x has.lawful has.lies has.knows held calls_so))
          moving

      -- where it goes on in the span, or returns
      pub goes-first : (least most : ℕ) (total : (Instruction → ℕ) → ℕ) → UnitGoesOn here all c.leads own at least most total unit w (last_turn (unit_turns unit x)) → Comes x (stands here at w)
      goes-first least most total goes =
          unit-first (λ t is.
          let comes : ComesTo here at goes.high least most goes.sum (λ y. Resumes here all c.leads own unit y t) (stands here at w) = subst (λ (last : Turn guest.State). FollowsInSpan here at goes.high least most goes.sum (Resumes here all c.leads own unit) (stands here at w) last) is goes.follows in
          after-path program_laws program words order choose classes code t comes.turns (stands here at w) comes.after comes.path.comes
          (settles program_laws program words order choose classes code number c there j j_below others below x t guest_is (between t is) (word-next t is) unit comes.after comes.arrives))

    -- ---- at the code of a word, or in a piece

    alone-first : (x : guest.State) → IsGuest order code x → (k : ℕ) (w : Workspace) → StandsAt order own k w x → begins c.leads own k ≡ false → Comes x (stands here (word_entry c j k) w)
    alone-first x guest_is k w s inner =
        let unit = unit_at all k in
        let at = word_entry c j k in
        let alone = laws.alone here order c.words c.leads own k w x has_span s inner (all-at (λ (d : CodeClass). d.metered ≡ false) classes number c is_in.metered_are there) in
        let count = turn_count (unit_turns unit x) in
        let total = whole_weight order (unit_code 0 unit x.pc) in
        goes-first x guest_is k s.below s.pc 0 (λ r. true) at w unit s.rests.held alone.has count (132 * count + 8) total
        (alone.goes_on total (follows x guest_is k s.below s.pc 0 (λ r. true) at w unit s.rests.held alone.has))

    pub piece-first : (x : guest.State) → IsGuest order code x → (k : ℕ) (front : List Unit) (unit : Unit) (rest : List Unit) (w : Workspace) → StandsInPiece order all c.leads own k front unit rest w x → Comes x (stands here (offset_in all c.leads own k front) w)
    piece-first x guest_is k front unit [] w s =
        let bank = bank_of (own_units all c.leads own k) in
        let known = known_behind (own_units all c.leads own k) front in
        let at = offset_in all c.leads own k front in
        let has = (laws.in_pieces here order c.words c.leads own k front unit [] w x has_span s).has in
        let count = turn_count (unit_turns unit x) in
        let total = whole_weight order (unit_code bank unit x.pc) in
        goes-first x guest_is (k + length front) has.below s.pc bank known at w unit s.inside.held has count (132 * count + 70) total
        (laws.last here order c.words c.leads own k front unit w x total has_span s (follows x guest_is (k + length front) has.below s.pc bank known at w unit s.inside.held has))
    piece-first x guest_is k front unit (next ∷ rest) w s =
        let bank = bank_of (own_units all c.leads own k) in
        let known = known_behind (own_units all c.leads own k) front in
        let at = offset_in all c.leads own k front in
        let high = offset_in all c.leads own k (front ++ unit ∷ []) in
        let has = (laws.in_pieces here order c.words c.leads own k front unit (next ∷ rest) w x has_span s).has in
        let total = whole_weight order (unit_code bank unit x.pc) in
        let inner = laws.inner here order c.words c.leads own k front unit next rest w x has_span s in
        let own_follows = inner.comes total (follows x guest_is (k + length front) has.below s.pc bank known at w unit s.inside.held has) in
        unit-first x guest_is (k + length front) has.below s.pc bank known at w unit s.inside.held has
        (λ t is.
        let comes : unit_follows.ComesToEnd here at high 1 132 total (λ v. StandsInPiece order all c.leads own k (front ++ unit ∷ []) next rest v t) (stands here at w) = subst (λ (last : Turn guest.State). unit_follows.Follows here at high 1 132 total (λ v u. StandsInPiece order all c.leads own k (front ++ unit ∷ []) next rest v u) (stands here at w) last) is own_follows in
        let next_between = between x guest_is (k + length front) has.below s.pc bank known at w unit s.inside.held has t is in
        record {
          more = comes.turns;
          rest = stands here high comes.after;
          comes = comes.path.comes;
          rests = record {
            guest_is = guest-next order code x t guest_is next_between;
            pc_word = word-next x guest_is (k + length front) has.below s.pc bank known at w unit s.inside.held has t is;
            stands = inr (inl (record {
              number = number;
              class = c;
              there = there;
              span = j;
              span_below = j_below;
              others = others;
              below = below;
              word = k;
              front = front ++ unit ∷ [];
              unit = next;
              rest = rest;
              some_done = let total_length = length-append front (unit ∷ []) in omega (arith, total_length);
              workspace = comes.after;
              held = comes.arrives;
              is_there = refl;
            }));
          };
        })

    entered-first : (x : guest.State) → IsGuest order code x → (k : ℕ) (w : Workspace) → StandsAt order own k w x → begins c.leads own k ≡ true → Comes x (stands here (word_entry c j k) w)
    entered-first x guest_is k w s begin =
        let e = laws.enters here order c.words c.leads own k w x has_span s begin in
        let comes = e.comes in
        comes-later guest_step.turn turns Resting HoldThere comes.turns x (stands here (word_entry c j k) w) (stands here (offset_in all c.leads own k []) comes.after) comes.path.comes
        (piece-first x guest_is k [] e.unit e.rest comes.after comes.arrives)

    pub word-first : (x : guest.State) → IsGuest order code x → (k : ℕ) (w : Workspace) → StandsAt order own k w x → Comes x (stands here (word_entry c j k) w)
    word-first x guest_is k w s = by_begin (either (begins c.leads own k))
      where
        by_begin : (begins c.leads own k ≡ true) ⊎ (begins c.leads own k ≡ false) → Comes x (stands here (word_entry c j k) w)
        by_begin (inl begin) = entered-first x guest_is k w s begin
        by_begin (inr inner) = alone-first x guest_is k w s inner

  -- ---- from each state of rest

  leads : ChoosesWords program words order choose missing classes code
  leads = program_laws.lead false program words order choose missing classes code is_in

  word-turn : (t : guest.State) (y : JvmState) → IsGuest order code t → AtWord program words order classes choose y t → Comes t y
  word-turn t y guest_is s =
      subst (Comes t) (sym s.is_there)
      (word-first s.number s.class s.there s.span s.span_below s.others s.below t guest_is s.word s.workspace s.stands)

  unit-turn : (t : guest.State) (y : JvmState) → IsGuest order code t → AtUnit program words order classes choose y t → Comes t y
  unit-turn t y guest_is s =
      subst (Comes t) (sym s.is_there)
      (piece-first s.number s.class s.there s.span s.span_below s.others s.below t guest_is s.word s.front s.unit s.rest s.workspace s.held)

  chosen-turn : (t : guest.State) (y : JvmState) → IsGuest order code t → ComesToWord program words order choose classes t y → Comes t y
  chosen-turn t y guest_is c = comes-later guest_step.turn turns Resting HoldThere c.turns t y c.after c.goes.comes (word-turn t c.after guest_is c.arrives)

  chooses-by : (t : guest.State) (y : JvmState) → IsGuest order code t → (word : Option ℕ) → code t.pc ≡ word → ((w : ℕ) → code t.pc ≡ Some w → ComesToWord program words order choose classes t y) → Comes t y
  chooses-by t y guest_is None is enters = inr (inr (record { turns = 0; at = t; comes = refl; ending = «fault» (stray_fault t.pc); ends_so = program_laws.stray order code t guest_is (inr is) }))
  chooses-by t y guest_is (Some w) is enters = chosen-turn t y guest_is (enters w is)

  rest-turn : (t : guest.State) (y : JvmState) (r : Resting t y) → StandsSomewhere program words order classes choose y t → Comes t y
  rest-turn t y r (inl s) = word-turn t y r.guest_is s
  rest-turn t y r (inr (inl s)) = unit-turn t y r.guest_is s
  rest-turn t y r (inr (inr (inl s))) = chooses-by t y r.guest_is (code t.pc) refl (λ w is. leads.from_run t w y r.guest_is is r.pc_word s)
  rest-turn t y r (inr (inr (inr s))) = chooses-by t y r.guest_is (code t.pc) refl (λ w is. leads.from_choose t w y r.guest_is is s)

  pub calls-held : (t : guest.State) (y : JvmState) → Resting t y → Comes t y
  calls-held t y r = rest-turn t y r r.stands
