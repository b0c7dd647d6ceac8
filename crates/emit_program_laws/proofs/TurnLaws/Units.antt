-- The classes follow the guest's turns through the unit at which it stands.
use Rattle.std.proofs.Common.{◌≡◌, ℕ, ◌+◌, ◌*◌, ◌<◌, ◌≤◌, ◌⊎◌, inl, inr, Bool, true, false, List, [], ◌∷◌, ◌++◌, length, length-append, slice_get, Option, Some, None, refl, ap, sym, subst, ◌∙◌, arith}
use Rattle.std.specs.List.{sum_by}
use Rattle.std.proofs.lemmas.Bool.{true≢false}
use Rattle.run_definition.specs.Words.{IsWord}
use Rattle.run_definition.specs.declared.order.Order.{Order}
use Rattle.run_definition.specs.Turn.{Turn, moves, ends, leaves, asks}
use Rattle.run_simulation_laws.specs.Trail.{Step}
use Rattle.run_simulation_laws.specs.Turns.{Follows, Passes}
use Rattle.run_simulation_laws.proofs.Passing.{passes_before}
use Rattle.mips_definition.specs.State as guest
use Rattle.delay_slots.specs.declared.unit.Unit.{Unit}
use Rattle.delay_slots.specs.declared.unit.Unit.TheVariants as units
use Rattle.delay_slots.specs.Units.{units_of}
use Rattle.delay_slots.specs.Turns as delay
use Rattle.delay_slots.specs.Turns.{HasRange, IsBetweenUnits, unit_turns, turn_count, last_turn}
use Rattle.block_builder.specs.Blocks.{unit_at}
use Rattle.block_builder.specs.Leaders.{is_plain}
use Rattle.jvm_definition.specs.declared.instruction.Instruction.{Instruction}
use Rattle.jvm_definition.specs.Program.{Program}
use Rattle.jvm_definition.specs.Effect.{Workspace}
use Rattle.jvm_definition.specs.Step.{JvmState, Frame}
use Rattle.word_emitter.specs.Pieces.{bank_of}
use Rattle.emit_spans.specs.declared.span_words.SpanWords.{SpanWords}
use Rattle.emit_spans.specs.Neighbours.{address}
use Rattle.emit_spans.specs.Pieces.{begins}
use Rattle.emit_paths_laws.specs.Guest.{crossings, partial}
use Rattle.emit_spans_laws.specs.GuestFollows.Holding.{HoldsOn}
use Rattle.emit_spans_laws.specs.GuestFollows.Sites.{Site, stands, turn_in, whole_weight}
use Rattle.emit_spans_laws.specs.GuestFollows.Following as unit_follows
use Rattle.emit_spans_laws.specs.Resuming.{ComesTo, FollowsInSpan, IsOutside, LastInSpan, Resumes, StandsAtReturn, StandsAtWord, jumps_by_register}
use Rattle.emit_spans_laws.specs.Spans.{HasSpan, StandsAt}
use Rattle.emit_spans_laws.specs.GuestCodeLaws.Counting.{ReadsNoneToCall, UnitCounts, unit_reads}
use Rattle.emit_spans_laws.specs.GuestCodeLaws.Steps.{GoesThroughSlot, begins_with_register_jump, unit_trail}
use Rattle.emit_spans_laws.specs.InPieces.{HasUnit, StandsInPiece, fetching, known_behind, offset_in, own_units}
use Rattle.trampoline_laws.proofs.TrampolineLaws.Elements.{all-at}
use Rattle.trampoline_laws.specs.Classes.{CodeClass, is_span, span_words, counted_span, counted_spans}
use Rattle.trampoline_laws.specs.Programs.{IsTranslated}
use Rattle.emit_program_laws.specs.Entered.{IsGuest}
use Rattle.emit_program_laws.specs.Standing.{IsBelow, span_site, word_entry}
use Rattle.emit_program_laws.specs.Counted.{Counted, Reads, Chars, Switches, Entries, weight, paid, credit, pair}
use Rattle.emit_program_laws.specs.Rests.{Rests}
use Rattle.emit_program_laws.specs.Marks.{MarksPieces}
use Rattle.emit_program_laws.proofs.TurnLaws.Given.{UnitLaws, SpanLaws, ProgramLaws}
use Rattle.emit_program_laws.proofs.TurnLaws.Resting.{at-return, each-of, guest-next, rests-at-run, rests-at-word, unit-there}
use Rattle.emit_program_laws.proofs.TurnLaws.Spans.{has-span, is-ready, spares-helpers, stands-in, told}
use Rattle.emit_program_laws.proofs.TurnLaws.Turning.{HasTurns, Settles, classes-pass, trail_to}
use Rattle.emit_program_laws.proofs.TurnLaws.Guest.{UnitMade, either, unit-made, unit-crosses}
use Rattle.emit_program_laws.proofs.TurnLaws.Following.{ForEach, ReadsAlone, SilentToAsk, path-walks, paths-follow, spares, stays-walks}
use Rattle.emit_program_laws.proofs.TurnLaws.Credits.{credit-few, credit-in-span, goes-none, other-outside, rest-paid, same-jumps, word-inside}

-- ---- the guest's side

silent-of : (classes : List CodeClass) (total sum : (Instruction → ℕ) → ℕ) (last : Turn guest.State) → sum (weight classes Reads) ≤ total (weight classes Reads) → ReadsNoneToCall total last → SilentToAsk (λ i. sum (weight classes i)) last
silent-of classes total sum (moves t) less none = tt
silent-of classes total sum (ends e) less none = tt
silent-of classes total sum (leaves q e) less none = tt
silent-of classes total sum (asks q next) less none = omega (arith, less, none)

-- ---- a unit in the middle of a piece is followed in its span too

-- there the classes stand at an offset
abbrev StandsWith : Site → ℕ → (Workspace → guest.State → Type 0) → JvmState → guest.State → Type 0
StandsWith site high Arrives y t = (v : Workspace) × (y ≡ stands site high v) × Arrives v t

module _ (site : Site) (low high least most : ℕ) (total : (Instruction → ℕ) → ℕ) (Arrives : Workspace → guest.State → Type 0) where
  end-comes : (l m : ℕ) (low₂ : ℕ) (P : Workspace → Type 0) (x : JvmState) → unit_follows.ComesToEnd site low₂ high l m total P x → ComesTo site low₂ high l m total (λ y. (v : Workspace) × (y ≡ stands site high v) × P v) x
  end-comes l m low₂ P x c = record { turns = c.turns; after = stands site high c.after; path = c.path; no_sooner = c.no_sooner; in_time = c.in_time; arrives = (c.after, refl, c.arrives) }

  last-in-span : (last : Turn guest.State) (used place : ℕ) (y : Turn JvmState) → unit_follows.LastTurn site high most total Arrives last used place y → LastInSpan site high most total (StandsWith site high Arrives) last used place y
  last-in-span (ends e) used place (ends f) like = like
  last-in-span (leaves q e) used place (leaves r f) like = like
  last-in-span (asks q next) used place (asks r then) like = (
    like.0,
    record {
      left = like.1.left;
      in_time = like.1.in_time;
      comes = λ a fit. end-comes 0 like.1.left (place + 1) (λ v. Arrives v (next a)) (then a) (like.1.comes a fit);
    },
  )
  last-in-span _ used place _ like = absurd like

  turn-in-span : (x : JvmState) (last : Turn guest.State) → unit_follows.ComesToTurn site low high least most total (unit_follows.LastTurn site high most total Arrives last) x → unit_follows.ComesToTurn site low high least most total (LastInSpan site high most total (StandsWith site high Arrives) last) x
  turn-in-span x last c = record {
    turns = c.turns;
    before = c.before;
    place = c.place;
    path = c.path;
    is_there = c.is_there;
    below = c.below;
    no_sooner = c.no_sooner;
    in_time = c.in_time;
    last = last-in-span last (c.turns + 1) c.place (turn_in site c.before) c.last;
  }

  follows-in-span : (x : JvmState) (last : Turn guest.State) → unit_follows.Follows site low high least most total Arrives x last → FollowsInSpan site low high least most total (StandsWith site high Arrives) x last
  follows-in-span x (moves t) c = end-comes least most low (λ v. Arrives v t) x c
  follows-in-span x (ends e) c = turn-in-span x (ends e) c
  follows-in-span x (leaves q e) c = turn-in-span x (leaves q e) c
  follows-in-span x (asks q next) c = turn-in-span x (asks q next) c

-- ---- a span of a class

plain-once : (unit : Unit) (x : guest.State) → is_plain unit ≡ true → turn_count (unit_turns unit x) ≡ 1
plain-once (units.Plain i) x is = refl
plain-once (units.Branch i slot) x is = absurd (true≢false (sym is))
plain-once (units.SlotMissing i) x is = absurd (true≢false (sym is))
plain-once (units.SlotIsBranch i word) x is = absurd (true≢false (sym is))
plain-once units.Call x is = absurd (true≢false (sym is))
plain-once (units.Trap kind value) x is = absurd (true≢false (sym is))

-- how many turns of the classes a word's unit may take
abbrev pub word_limit : ℕ → ℕ
word_limit n = 132 * n + 145

module _ (unit_laws : UnitLaws) (laws : SpanLaws) (program_laws : ProgramLaws) (program : Program) (words : ℕ) (order : Order) (choose missing : ℕ) (classes : List CodeClass) (code : ℕ → Option ℕ) (is_in : IsTranslated false program order choose missing classes code) (marked : guest.State → Bool) (marks : MarksPieces classes marked) where
  abbrev Rest : guest.State → JvmState → Type 0
  Rest t y = Rests program words order choose classes code t y

  abbrev numbers : ℕ → Bool
  numbers = is_span classes

  module _ (number : ℕ) (c : CodeClass) (there : slice_get classes number ≡ Some c) (j : ℕ) (j_below : j < length c.spans) (others : List Frame) (below : IsBelow program words numbers choose c others) where
    abbrev site : Site
    site = span_site program words c j others

    abbrev own : SpanWords
    own = span_words c j

    abbrev all : List Unit
    all = units_of c.words

    few-frames : length others < 62
    few-frames = let e = ap length below.others_are in omega (arith, e)

    has_span : HasSpan site c.words c.leads own
    has_span = has-span program_laws program order choose missing classes code is_in number c there words j j_below others

    in-span : (i : Counted) (y : JvmState) (at : ℕ) (w : Workspace) → y ≡ stands site at w → credit classes i y ≡ 0
    in-span i y at w is = credit-in-span classes i y (c.first_method + j) at w others is ((told program_laws program order choose missing classes code is_in).spans number c j there j_below)

    stands-there : (x : guest.State) → IsGuest order code x → (k : ℕ) → k < own.end → x.pc ≡ address own k → delay.StandsAt x c.start c.words k
    stands-there x guest_is k less pc =
        let within = has_span.within in
        record {
          begun = guest_is.begun;
          pending = guest_is.pending;
          pc = pc;
          in_range = omega (arith, less, within);
          range = subst (λ (f : ℕ → Option ℕ). HasRange f c.start c.words) (sym guest_is.code_is) (stands-in program_laws program order choose missing classes code is_in number c there).range;
        }

    -- ---- the turns of one unit, whatever its code is counted to weigh

    module _ (x : guest.State) (guest_is : IsGuest order code x) (k : ℕ) (above : own.first ≤ k) (less : k < own.end) (pc : x.pc ≡ address own k) (bank : ℕ) (known : ℕ → Bool) (at : ℕ) (w : Workspace) (unit : Unit) (held : HoldsOn bank known w x) (none : w.operands ≡ []) (has : HasUnit site all own k bank known at unit x) where
      abbrev stands-here : delay.StandsAt x c.start c.words k
      stands-here = stands-there x guest_is k less pc

      is-there : slice_get all k ≡ Some unit
      is-there = unit-there c.words k stands-here.in_range ∙ ap (λ (u : Unit). Some u) (sym has.is_there)

      passes-slot : GoesThroughSlot x (unit_turns unit x)
      passes-slot = subst (λ (u : Unit). GoesThroughSlot x (unit_turns u x)) (sym has.is_there) (unit_laws.slots x c.start c.words k stands-here)

      pub unit_made : UnitMade marked x (unit_turns unit x)
      unit_made = unit-made marked marks.between x (unit_turns unit x) (unit_laws.made x c.start c.words k unit stands-here is-there) passes-slot

      pub counted : UnitCounts site bank known at w x unit numbers
      counted = unit_laws.counted unit site order bank known at w x numbers has.lawful (is-ready program_laws program order choose missing classes code is_in number c there words j j_below others few-frames) guest_is.order_is has.lies has.knows held (spares-helpers program_laws program order choose missing classes code is_in)

      abbrev own_made : HasTurns marked x (last_turn (unit_turns unit x))
      own_made = unit_made.made

      abbrev pub own_trail : Option guest.State → List (Step guest.State)
      own_trail to = trail_to own_made.earlier x own_made.before to

      -- the words that the unit reads are the guest's
      reads-told : (to : Option guest.State) → partial (unit_trail x (unit_turns unit x) to) ≡ unit_reads unit x
      reads-told to = subst (λ (u : Unit). partial (unit_trail x (unit_turns u x) to) ≡ unit_reads u x) (sym has.is_there) (unit_laws.reads x c.start c.words k to stands-here)

      reads-paid : (to : Option guest.State) → unit_reads unit x ≤ sum_by (paid classes Reads) (own_trail to)
      reads-paid to =
          let e : partial (own_trail to) ≡ unit_reads unit x = ap partial (unit_made.trail to) ∙ reads-told to in
          let same : sum_by (paid classes Reads) (own_trail to) ≡ unit_reads unit x = e in
          omega (arith, same)

      module _ (sum : (Instruction → ℕ) → ℕ) (spared : (i : Counted) → sum (weight classes i) ≤ counted.total (weight classes i)) where
        abbrev used : Counted → ℕ
        used i = sum (weight classes i)

        reads-alone : ReadsAlone classes (unit_reads unit x) used
        reads-alone =
            let counts = counted.counts in
            let a = spared Reads in
            let b = spared Chars in
            let d = spared Switches in
            let e = spared Entries in
            let few = counts.few_reads in
            let no_chars = counts.no_chars in
            let switches = counts.few_switches in
            let entries = counts.few_entries in
            record { few_reads = omega (arith, a, few); no_chars = omega (arith, b, no_chars); no_switches = omega (arith, d, switches); no_entries = omega (arith, e, entries) }

        used-reads : (to : Option guest.State) → used Reads ≤ sum_by (paid classes Reads) (own_trail to)
        used-reads to = let a = reads-alone.few_reads in let b = reads-paid to in omega (arith, a, b)

        abbrev allowed : guest.State → Counted → ℕ
        allowed t i = credit classes i (stands site at w) + sum_by (paid classes i) (own_trail (Some t))

        -- at rest with so much credit, which was paid for by crossings
        pub paid-at-rest : (t : guest.State) (e : ℕ) (rest : JvmState) → ((i : Counted) → credit classes i rest ≤ e) → e ≤ crossings (counted_spans classes) (own_trail (Some t)) → (i : Counted) → used i + credit classes i rest ≤ allowed t i
        paid-at-rest t e rest few crossed = rest-paid classes used (unit_reads unit x) (λ i. credit classes i (stands site at w)) own_made.earlier x own_made.before t e rest reads-alone (used-reads (Some t)) few crossed

        abbrev SettlesOn : ℕ → guest.State → JvmState → Type 0
        SettlesOn extra t y = Settles program words classes marked Rest used (allowed t) extra t y

        pub unit-follows : (low high most extra : ℕ) (Arrives : JvmState → guest.State → Type 0) (limit : ℕ → ℕ) → FollowsInSpan site low high (turn_count (unit_turns unit x)) most sum Arrives (stands site at w) (last_turn (unit_turns unit x)) → ((t : guest.State) → IsBetweenUnits x t → IsWord t.pc → (y : JvmState) → Arrives y t → SettlesOn extra t y) → most + extra ≤ limit (turn_count (unit_turns unit x)) → Follows (pair program words classes marked) Rest limit x (stands site at w)
        unit-follows low high most extra Arrives limit follows settles room =
            let last = last_turn (unit_turns unit x) in
            let leads_to_words = unit_laws.words x unit has.lawful guest_is.pending held.register_word in
            let each : ForEach (λ t. (y : JvmState) → Arrives y t → SettlesOn extra t y) last = each-of x (λ t. (y : JvmState) → Arrives y t → SettlesOn extra t y) last (unit_laws.leads x c.words k unit guest_is.begun is-there) leads_to_words settles in
            let silent : SilentToAsk used last = silent-of classes counted.total sum last (spared Reads) counted.asking in
            let own_follows : FollowsInSpan site low high (own_made.earlier + 1) most sum Arrives (stands site at w) last = subst (λ (n : ℕ). FollowsInSpan site low high n most sum Arrives (stands site at w) last) (sym unit_made.count) follows in
            let own_room : most + extra ≤ limit (own_made.earlier + 1) = subst (λ (n : ℕ). most + extra ≤ limit n) (sym unit_made.count) room in
            let read = used-reads None in
            paths-follow program words classes marked Rest x (c.first_method + j) at w others last own_made low high most extra sum Arrives limit (unit_reads unit x) reads-alone none (omega (arith, read)) own_room last refl silent each own_follows

        -- ---- where it goes on in the span, or returns

        settles-at-word : (t : guest.State) → IsBetweenUnits x t → IsWord t.pc → (y : JvmState) → StandsAtWord site all c.leads own y t → SettlesOn 13 t y
        settles-at-word t between pc_word y s = record {
          more = 0;
          rest = y;
          walks = stays-walks program words classes y;
          rests = rests-at-word program words order choose classes code x t guest_is between pc_word number c there j j_below others below y s;
          in_time = omega arith;
          counted = paid-at-rest t 0 y (λ i. let e = in-span i y s.at s.workspace s.is_there in omega (arith, e)) (omega arith);
        }

        jumps-across : (to : Option guest.State) → begins_with_register_jump unit ≡ true → 1 ≤ crossings (counted_spans classes) (unit_trail x (unit_turns unit x) to)
        jumps-across to jump =
            subst (λ (u : Unit). 1 ≤ crossings (counted_spans classes) (unit_trail x (unit_turns u x) to)) (sym has.is_there)
            (unit_laws.crossings x c.start c.words k (counted_spans classes) to stands-here (subst (λ (u : Unit). begins_with_register_jump u ≡ true) has.is_there jump))

        crosses : (t : guest.State) (y : JvmState) → StandsAtReturn site own unit y t → 1 ≤ crossings (counted_spans classes) (own_trail (Some t))
        crosses t y s = by_reason (s.because (stands-in program_laws program order choose missing classes code is_in number c there).has.is_class.aligned)
          where
            same : crossings (counted_spans classes) (own_trail (Some t)) ≡ crossings (counted_spans classes) (unit_trail x (unit_turns unit x) (Some t))
            same = ap (crossings (counted_spans classes)) (unit_made.trail (Some t))

            by_reason : (jumps_by_register unit ≡ true) ⊎ IsOutside own t.pc → 1 ≤ crossings (counted_spans classes) (own_trail (Some t))
            by_reason (inl jump) = let one = jumps-across (Some t) (sym (same-jumps unit) ∙ jump) in omega (arith, one, same)
            by_reason (inr outside) =
                let one = unit-crosses (counted_spans classes) (counted_span c j) (program_laws.apart false program order choose missing classes code is_in number c j there j_below).out x t (unit_turns unit x) guest_is.begun passes-slot (word-inside c j k x.pc above less pc) (other-outside c j t.pc outside) in
                omega (arith, one, same)

        settles-at-return : (t : guest.State) → IsBetweenUnits x t → IsWord t.pc → (y : JvmState) → StandsAtReturn site own unit y t → SettlesOn 13 t y
        settles-at-return t between pc_word y s =
            let back = program_laws.come_back program words classes choose t y (at-return program words order choose classes code x t guest_is between pc_word number c there j j_below others below unit y s) in
            record {
              more = back.turns;
              rest = back.after;
              walks = goes-none classes program words back.turns y back.after back.goes;
              rests = rests-at-run program words order choose classes code x t guest_is between pc_word back.after back.arrives;
              in_time = back.in_time;
              counted = paid-at-rest t 1 back.after (λ i. credit-few classes i back.after) (crosses t y s);
            }

        pub settles-behind : (t : guest.State) → IsBetweenUnits x t → IsWord t.pc → (y : JvmState) → Resumes site all c.leads own unit y t → SettlesOn 13 t y
        settles-behind t between pc_word y (inl at_word) = settles-at-word t between pc_word y at_word
        settles-behind t between pc_word y (inr at_return) = settles-at-return t between pc_word y at_return

    -- ---- a word alone

    pub alone-follows : (x : guest.State) → IsGuest order code x → (k : ℕ) (w : Workspace) → StandsAt order own k w x → begins c.leads own k ≡ false → Follows (pair program words classes marked) Rest word_limit x (stands site (word_entry c j k) w)
    alone-follows x guest_is k w s inner =
        let unit = unit_at all k in
        let at = word_entry c j k in
        let here = laws.alone site order c.words c.leads own k w x has_span s inner (all-at (λ (d : CodeClass). d.metered ≡ false) classes number c is_in.metered_are there) in
        let has = here.has in
        let counts = counted x guest_is k s.above s.below s.pc 0 (λ r. true) at w unit s.rests.held s.rests.no_operands has in
        let goes = here.goes_on counts.total counts.follows in
        let spared : (i : Counted) → goes.sum (weight classes i) ≤ counts.total (weight classes i) = λ i. goes.spared (weight classes i) (spares classes i) in
        unit-follows x guest_is k s.above s.below s.pc 0 (λ r. true) at w unit s.rests.held s.rests.no_operands has goes.sum spared at goes.high (132 * turn_count (unit_turns unit x) + 8) 13 (Resumes site all c.leads own unit) word_limit goes.follows
        (settles-behind x guest_is k s.above s.below s.pc 0 (λ r. true) at w unit s.rests.held s.rests.no_operands has goes.sum spared) (omega arith)

    -- ---- a unit of a piece

    settles-in-piece : (x : guest.State) (guest_is : IsGuest order code x) (k : ℕ) (front : List Unit) (unit next : Unit) (rest : List Unit) (used : Counted → ℕ) (allowed : Counted → ℕ) (high : ℕ) → ((y : JvmState) → ((i : Counted) → credit classes i y ≤ 0) → (i : Counted) → used i + credit classes i y ≤ allowed i) → (t : guest.State) → IsBetweenUnits x t → IsWord t.pc → (y : JvmState) → StandsWith site (offset_in all c.leads own k (front ++ unit ∷ [])) (λ v u. StandsInPiece order all c.leads own k (front ++ unit ∷ []) next rest v u) y t → Settles program words classes marked Rest used allowed 13 t y
    settles-in-piece x guest_is k front unit next rest used allowed high paid_for t between pc_word y s = record {
      more = 0;
      rest = y;
      walks = stays-walks program words classes y;
      rests = record {
        guest_is = guest-next order code x t guest_is between;
        pc_word = pc_word;
        stands = inr (inl (record {
          number = number;
          class = c;
          there = there;
          span = j;
          span_below = j_below;
          others = others;
          below = below;
          word = k;
          front = front ++ unit ∷ [];
          unit = next;
          rest = rest;
          some_done = let total = length-append front (unit ∷ []) in omega (arith, total);
          workspace = s.0;
          held = s.2;
          is_there = s.1;
        }));
      };
      in_time = omega arith;
      counted = paid_for y (λ i. let e = in-span i y (offset_in all c.leads own k (front ++ unit ∷ [])) s.0 s.1 in omega (arith, e));
    }

    pub piece-follows : (x : guest.State) → IsGuest order code x → (k : ℕ) (front : List Unit) (unit : Unit) (rest : List Unit) (w : Workspace) → StandsInPiece order all c.leads own k front unit rest w x → Follows (pair program words classes marked) Rest (λ n. 132 * n + 83) x (stands site (offset_in all c.leads own k front) w)
    piece-follows x guest_is k front unit [] w s =
        let bank = bank_of (own_units all c.leads own k) in
        let known = known_behind (own_units all c.leads own k) front in
        let at = offset_in all c.leads own k front in
        let has = (laws.in_pieces site order c.words c.leads own k front unit [] w x has_span s).has in
        let counts = counted x guest_is (k + length front) has.above has.below s.pc bank known at w unit s.inside.held s.inside.no_operands has in
        let goes = laws.last site order c.words c.leads own k front unit w x counts.total has_span s counts.follows in
        let spared : (i : Counted) → goes.sum (weight classes i) ≤ counts.total (weight classes i) = λ i. goes.spared (weight classes i) (spares classes i) in
        unit-follows x guest_is (k + length front) has.above has.below s.pc bank known at w unit s.inside.held s.inside.no_operands has goes.sum spared at goes.high (132 * turn_count (unit_turns unit x) + 70) 13 (Resumes site all c.leads own unit) (λ n. 132 * n + 83) goes.follows
        (settles-behind x guest_is (k + length front) has.above has.below s.pc bank known at w unit s.inside.held s.inside.no_operands has goes.sum spared) (omega arith)
    piece-follows x guest_is k front unit (next ∷ rest) w s =
        let bank = bank_of (own_units all c.leads own k) in
        let known = known_behind (own_units all c.leads own k) front in
        let at = offset_in all c.leads own k front in
        let high = offset_in all c.leads own k (front ++ unit ∷ []) in
        let has = (laws.in_pieces site order c.words c.leads own k front unit (next ∷ rest) w x has_span s).has in
        let counts = counted x guest_is (k + length front) has.above has.below s.pc bank known at w unit s.inside.held s.inside.no_operands has in
        let inner = laws.inner site order c.words c.leads own k front unit next rest w x has_span s in
        let once = plain-once unit x inner.plain in
        let follows = inner.comes counts.total counts.follows in
        let Arrives : Workspace → guest.State → Type 0 = λ v t. StandsInPiece order all c.leads own k (front ++ unit ∷ []) next rest v t in
        let in_span : FollowsInSpan site at high 1 132 counts.total (StandsWith site high Arrives) (stands site at w) (last_turn (unit_turns unit x)) = follows-in-span site at high 1 132 counts.total Arrives (stands site at w) (last_turn (unit_turns unit x)) follows in
        let whole : FollowsInSpan site at high (turn_count (unit_turns unit x)) 132 counts.total (StandsWith site high Arrives) (stands site at w) (last_turn (unit_turns unit x)) = subst (λ (n : ℕ). FollowsInSpan site at high n 132 counts.total (StandsWith site high Arrives) (stands site at w) (last_turn (unit_turns unit x))) (sym once) in_span in
        let spared : (i : Counted) → counts.total (weight classes i) ≤ counts.total (weight classes i) = λ i. omega arith in
        unit-follows x guest_is (k + length front) has.above has.below s.pc bank known at w unit s.inside.held s.inside.no_operands has counts.total spared at high 132 13 (StandsWith site high Arrives) (λ n. 132 * n + 83) whole
        (λ t between pc_word y arrives. settles-in-piece x guest_is k front unit next rest _ _ high (λ z few. paid-at-rest x guest_is (k + length front) has.above has.below s.pc bank known at w unit s.inside.held s.inside.no_operands has counts.total spared t 0 z few (omega arith)) t between pc_word y arrives)
        (omega (arith, once))

    -- ---- a word with which a piece begins

    -- what the code weighs that comes before a piece's first unit
    abbrev fetch_weight : ℕ → (Instruction → ℕ) → ℕ
    fetch_weight k weight = whole_weight order (fetching (own_units all c.leads own k)) weight

    pub entered-follows : (x : guest.State) → IsGuest order code x → (k : ℕ) (w : Workspace) → StandsAt order own k w x → begins c.leads own k ≡ true → Follows (pair program words classes marked) Rest word_limit x (stands site (word_entry c j k) w)
    entered-follows x guest_is k w s begin =
        let e = laws.enters site order c.words c.leads own k w x has_span s begin in
        let comes = e.comes in
        let start = stands site (word_entry c j k) w in
        let v = comes.after in
        let end = stands site (offset_in all c.leads own k []) v in
        let in_time = comes.in_time in
        let walks = path-walks program words classes (c.first_method + j) (word_entry c j k) (offset_in all c.leads own k []) comes.turns (fetch_weight k) start end comes.path in
        let part : Passes (pair program words classes marked) 0 comes.turns x start x end = classes-pass program words classes marked Rest (λ i. fetch_weight k (weight classes i)) comes.turns x start end walks
        (λ i. let free = laws.enters_spared order (weight classes i) (own_units all c.leads own k) (spares classes i) in let none = in-span i end (offset_in all c.leads own k []) v refl in omega (arith, free, none)) in
        passes_before (pair program words classes marked) 0 comes.turns x start x end part Rest (λ n. 132 * n + 83) word_limit
        (piece-follows x guest_is k [] e.unit e.rest v comes.arrives)
        (λ some. absurd (omega (arith, some))) (λ n. omega (arith, in_time))

    pub word-follows : (x : guest.State) → IsGuest order code x → (k : ℕ) (w : Workspace) → StandsAt order own k w x → Follows (pair program words classes marked) Rest word_limit x (stands site (word_entry c j k) w)
    word-follows x guest_is k w s = by_begin (either (begins c.leads own k))
      where
        by_begin : (begins c.leads own k ≡ true) ⊎ (begins c.leads own k ≡ false) → Follows (pair program words classes marked) Rest word_limit x (stands site (word_entry c j k) w)
        by_begin (inl begin) = entered-follows x guest_is k w s begin
        by_begin (inr inner) = alone-follows x guest_is k w s inner
