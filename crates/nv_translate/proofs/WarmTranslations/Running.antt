-- What runs of a block is the code of its piece.
use Rattle.std.proofs.Common.{◌≡◌, ℕ, ◌+◌, ◌*◌, ◌^◌, ◌<◌, ◌≤◌, false, inl, inr, List, [], length, slice_get, Option, Some, sym, ap, subst, ◌∙◌, arith}
use Rattle.std.proofs.lemmas.Bool.{true≢false}
use Rattle.run_definition.specs.declared.order.Order.{Order}
use Rattle.run_definition.specs.Turn.{Turn, moves, ends as ends_so, leaves, asks}
use Rattle.mips_definition.specs.State as guest
use Rattle.delay_slots.specs.Units.{units_of}
use Rattle.delay_slots.specs.Turns.{HasRange, IsBetweenUnits, LeadsOn}
use Rattle.jvm_definition.specs.declared.value.Value.TheVariants.{Int as int}
use Rattle.jvm_definition.specs.declared.linked_method.LinkedMethod.{LinkedMethod}
use Rattle.jvm_definition.specs.Program.{Program, LaidFrom}
use Rattle.jvm_definition.specs.Effect.{Workspace}
use Rattle.jvm_definition.specs.Step.{JvmState, Frame, frame_placed}
use Rattle.emit_steps.specs.Widths.{size}
use Rattle.emit_layout.specs.FieldNumbers.{pc_field}
use Rattle.emit_spans.specs.declared.span_words.SpanWords.{SpanWords}
use Rattle.emit_spans.specs.Neighbours.{address}
use Rattle.emit_spans.specs.Laying.{entry_at, stretch_at}
use Rattle.emit_paths_laws.specs.Classes.{entries}
use Rattle.emit_program_laws.specs.SpanCodeLaws.Sites.{stands, whole_weight}
use Rattle.emit_program_laws.specs.SpanCodeLaws.Instructions.{IsReady}
use Rattle.emit_program_laws.specs.SpanCodeLaws.Pieces.{piece_turns}
use Rattle.emit_program_laws.specs.SpanCodeLaws.Entering.{IsEntered}
use Rattle.emit_program_laws.specs.SpanCodeLaws.Made.{AreTurns}
use Rattle.emit_program_laws.specs.SpanCodeLaws.Registers.{LinesTouchRegistersOnce, lines_between}
use Rattle.emit_program_laws.specs.SpanCodeLaws.Resuming.{FollowsInSpan, IsOutside, StandsAtWord, jumps_by_register}
use Rattle.emit_program_laws.specs.SpanCodeLaws.Spans.{HasSpan, StandsAt}
use Rattle.emit_program_laws.specs.TrampolineLaws.Classes.{CodeClass, HasClass, IsClass, span_words}
use Rattle.emit_program_laws.specs.TrampolineLaws.Programs.{IsTranslated}
use Rattle.emit_program_laws.proofs.TrampolineLaws.Elements.{all-at}
use Rattle.emit_program_laws.proofs.TrampolineLaws.Words.{span-end}
use Rattle.emit_program_laws.specs.Entered.{IsGuest}
use Rattle.translate_program.specs.declared.block_info.BlockInfo.{BlockInfo}
use Rattle.translate_program.specs.declared.layout.Layout.{Layout}
use Rattle.nv_translate.specs.Warm.{IsPieceOf, AtBlock, Follows, GoesOn, IsAlone, RunsWarm, code_of, last_unit, method_of, own_units, site_of, span_of, LeavesGuest, Matches}
use Rattle.nv_translate.proofs.WarmTranslations.Given.{WarmLaws}
use Rattle.nv_translate.proofs.WarmTranslations.Calling.{part-none}
use Rattle.nv_translate.proofs.WarmTranslations.Staying.{is_other}
use Rattle.nv_translate.proofs.WarmTranslations.Alone.{alone-stays}
use Rattle.nv_translate.proofs.WarmTranslations.Ending.{piece-plain}
use Rattle.nv_translate.proofs.WarmTranslations.Pieces.{one-span}

module _ (laws : WarmLaws) (program : Program) (order : Order) (choose missing : ℕ) (classes : List CodeClass) (code : ℕ → Option ℕ)
    (translated : IsTranslated false program order choose missing classes code) (layout : Layout) where
  class-has : (n : ℕ) (c : CodeClass) → slice_get classes n ≡ Some c → HasClass program c
  class-has n c there = all-at (HasClass program) classes n c translated.has there

  -- ---- one block

  module _ (b : BlockInfo) (p : IsPieceOf classes layout b) where
    has : HasClass program p.class
    has = class-has p.number p.class p.there

    is : IsClass p.class
    is = has.is_class

    ends : (span_of p).end ≤ length p.class.words
    ends = span-end p.class is p.span p.span_below

    low : address (span_of p) (span_of p).end ≤ 2 ^ 31
    low = omega (arith, is.low, ends)

    pub from-entry : b.from ≡ entry_at (units_of p.class.words) p.class.leads (span_of p) p.word
    from-entry = p.from_is ∙ (laws.stretches (units_of p.class.words) p.class.leads (span_of p) p.word p.begin).from_is

    to-entry : b.to ≡ entry_at (units_of p.class.words) p.class.leads (span_of p) p.word + size (code_of p)
    to-entry = p.to_is ∙ (laws.stretches (units_of p.class.words) p.class.leads (span_of p) p.word p.begin).to_is

    block-entered : (words : ℕ) (others : List Frame) (w : Workspace) → w.fields pc_field ≡ int b.first
        → IsEntered (site_of program words p others) (units_of p.class.words) p.class.leads (span_of p) w b.from
    block-entered words others w pc =
        subst (IsEntered (site_of program words p others) (units_of p.class.words) p.class.leads (span_of p) w) (sym from-entry)
        ((laws.enters (site_of program words p others) (units_of p.class.words) p.class.leads (span_of p)
        (has.spans_lie p.span p.span_below) low).words p.word w p.above p.below (pc ∙ ap int p.first_is))

    has-span : (words : ℕ) (others : List Frame) → HasSpan (site_of program words p others) p.class.words p.class.leads (span_of p)
    has-span words others = record {
      lies = has.spans_lie p.span p.span_below;
      are_words = is.are_words;
      no_float = is.no_float;
      within = ends;
      below = omega (arith, is.low);
    }

    ready : (words : ℕ) (others : List Frame) → length others < 62 → IsReady (site_of program words p others) order
    ready words others few = record {
      helpers = translated.helpers;
      no_helper = (let above = (laws.numbered false program order choose missing classes code translated).above p.number p.class p.there in
          omega (arith, above, translated.helpers_low));
      few = few;
    }

    -- states that match at the block stand at its word
    matched-stands : (others : List Frame) (w : Workspace) (x : guest.State) → Matches order code p others w x → StandsAt order (span_of p) p.word w x
    matched-stands others w x at = record {
      above = p.above;
      below = p.below;
      rests = at.rests;
      pc = at.pc ∙ p.first_is;
      pending = at.guest_is.pending;
      order_is = at.guest_is.order_is;
    }

    stands-follow : (words : ℕ) (others : List Frame) (w : Workspace) (x : guest.State) → length others < 62 → StandsAt order (span_of p) p.word w x
        → Follows program order words p others w x
    stands-follow words others w x few at =
        let site = site_of program words p others in
        let entry = entry_at (units_of p.class.words) p.class.leads (span_of p) p.word in
        let n = (piece_turns (own_units p) x).0 in
        let last = (piece_turns (own_units p) x).1 in
        let total = whole_weight order (code_of p) in
        let there =
        laws.follows site order p.class.words p.class.leads (span_of p) p.word w x (has-span words others) (ready words others few) at p.begin in
        subst (λ to. FollowsInSpan site b.from to n (264 * n) total (GoesOn program words p others) (stands site b.from w) last) (sym to-entry)
        (subst (λ from. FollowsInSpan site from (entry + size (code_of p)) n (264 * n) total (GoesOn program words p others) (stands site from w)
        last)
        (sym from-entry) there)

    block-follows : (words : ℕ) (others : List Frame) (w : Workspace) (x : guest.State) → Matches order code p others w x
        → Follows program order words p others w x
    block-follows words others w x at =
        let few = at.few in
        stands-follow words others w x (omega (arith, few)) (matched-stands others w x at)

    between-is : (x t : guest.State) → IsGuest order code x → IsBetweenUnits x t → IsGuest order code t
    between-is x t is_guest between = record {
      begun = between.begun;
      pending = between.pending;
      order_is = between.order ∙ is_guest.order_is;
      code_is = between.code ∙ is_guest.code_is;
    }

    leaves-guest : (x : guest.State) → IsGuest order code x → (last : Turn guest.State) → LeadsOn x last → LeavesGuest order code last
    leaves-guest x is_guest (moves t) on = between-is x t is_guest on
    leaves-guest x is_guest (ends_so e) on = tt
    leaves-guest x is_guest (leaves q e) on = tt
    leaves-guest x is_guest (asks q next) on = λ a. between-is x (next a) is_guest (on a)

    block-made : (x : guest.State) → IsGuest order code x → x.pc ≡ b.first
        → AreTurns x (piece_turns (own_units p) x).0 (piece_turns (own_units p) x).1
        × LeavesGuest order code (piece_turns (own_units p) x).1
    block-made x is_guest pc =
        let range : HasRange code p.class.start p.class.words =
        all-at (λ (c : CodeClass). HasRange code c.start c.words) classes p.number p.class translated.code_is.ranges p.there in
        let made = laws.made p.class.words p.class.leads (span_of p) p.word x (record {
          begun = is_guest.begun;
          pending = is_guest.pending;
          pc = pc ∙ p.first_is;
          in_range = omega (arith, p.below, ends);
          range = subst (λ (held : ℕ → Option ℕ). HasRange held p.class.start p.class.words) (sym is_guest.code_is) range;
        }) is.are_words is.no_float p.below ends in
        (made.turns, leaves-guest x is_guest (piece_turns (own_units p) x).1 made.goes_on)

    calls-helpers : whole_weight order (code_of p) (entries is_other) ≡ 0
    calls-helpers =
        part-none laws.helpers_call order 0 false (units_of p.class.words) p.class.leads (span_of p) p.word p.begin
        (laws.pieces_call 0 p.word (units_of p.class.words) p.class.leads (span_of p) (laws.lawful p.class.words is.are_words is.no_float))

    resumed-stands : (words : ℕ) (others : List Frame) (y : JvmState) (t : guest.State) → GoesOn program words p others y t
        → (at : ℕ) × (v : Workspace) × (y ≡ stands (site_of program words p others) at v)
    resumed-stands words others y t (inl s) = (s.at, s.workspace, s.is_there)
    resumed-stands words others y t (inr s) = (s.at, s.workspace, s.is_there)

    block-alone : (words : ℕ) (others : List Frame) (w : Workspace) (x : guest.State) (at : Matches order code p others w x)
        → IsAlone program order words p others w x (block-follows words others w x at)
    block-alone words others w x at =
        let small = at.few in
        let few : length others < 62 = omega (arith, small) in
        let n = (piece_turns (own_units p) x).0 in
        alone-stays (site_of program words p others) (whole_weight order (code_of p)) calls-helpers (ready words others few).no_helper b.from w b.to n
        (264 * n)
        (GoesOn program words p others) (GoesOn program words p []) (resumed-stands words others) (piece_turns (own_units p) x).1
        (piece-plain (own_units p) x)
        (block-follows words others w x at) (stands-follow words [] w x (omega arith) (matched-stands others w x at))

    block-once : (method : LinkedMethod) → program.method (method_of p) ≡ Some method → LaidFrom 0 method.lines
        → LinesTouchRegistersOnce (lines_between b.from b.to method.lines)
    block-once method there laid =
        let once = laws.once (site_of program 0 p []) method (units_of p.class.words) p.class.leads (span_of p) p.word there laid
        (has.spans_lie p.span p.span_below) p.above p.below p.begin in
        subst (λ from. LinesTouchRegistersOnce (lines_between from b.to method.lines)) (sym p.from_is)
        (subst
        (λ to. LinesTouchRegistersOnce (lines_between (stretch_at (units_of p.class.words) p.class.leads (span_of p) p.word).from to method.lines))
        (sym p.to_is) once)

  -- ---- from a block to another one of its span

  module _ (b d : BlockInfo) (p : IsPieceOf classes layout b) (q : IsPieceOf classes layout d) (same : b.span ≡ d.span) (words : ℕ)
      (others : List Frame)
      (y : JvmState) (t : guest.State) (pc : t.pc ≡ d.first) (is_guest : IsGuest order code t) (small : length others ≤ 31) where
    starts : p.class.start ≡ q.class.start
    starts = ap (λ (c : CodeClass). c.start) (one-span classes layout b d p q same).classes_are

    spans-same : span_of p ≡ span_of q
    spans-same =
        let one = one-span classes layout b d p q same in λ i. span_words (one.classes_are i) (one.spans i)

    methods-same : method_of p ≡ method_of q
    methods-same =
        let one = one-span classes layout b d p q same in
        λ i. (one.classes_are i).first_method + one.spans i

    word-inside : IsOutside (span_of p) t.pc → ⊥
    word-inside (inl before) =
        let spans = ap (λ (s : SpanWords). address s s.first) spans-same in
        omega (arith, before, spans, pc, q.first_is, q.above)
    word-inside (inr behind) =
        let spans = ap (λ (s : SpanWords). address s s.end) spans-same in
        omega (arith, behind, spans, pc, q.first_is, q.below)

    at-word : StandsAtWord (site_of program words p others) (units_of p.class.words) p.class.leads (span_of p) y t
        → AtBlock program order code words q others t y
    at-word s =
        let one = one-span classes layout b d p q same in
        let word : s.entry.word ≡ q.word = omega (arith, s.entry.is_there, pc, q.first_is, starts) in
        let entry : s.at ≡ d.from =
        sym s.entry.entry
        ∙ (λ i. entry_at (units_of (one.classes_are i).words) (one.classes_are i).leads (spans-same i) (word i))
        ∙ sym (from-entry d q) in
        record {
          workspace = s.workspace;
          matches = record { guest_is = is_guest; pc = pc; rests = s.rests; few = small };
          is_there = s.is_there ∙ (λ i. frame_placed (methods-same i) (entry i) s.workspace others);
        }

    block-goes-on : GoesOn program words p others y t → jumps_by_register (last_unit p) ≡ false → AtBlock program order code words q others t y
    block-goes-on (inl s) no_jump = at-word s
    block-goes-on (inr s) no_jump = absurd (elim (s.because (is b p).aligned) [
      | inl jumps ↦ true≢false (sym jumps ∙ no_jump)
      | inr outside ↦ word-inside outside
    ])

  -- ---- all of it

  pub runs-warm : ((b : BlockInfo) (p : IsPieceOf classes layout b) (method : LinkedMethod) → program.method (method_of p) ≡ Some method
      → LaidFrom 0 method.lines) → (b : BlockInfo) (p : IsPieceOf classes layout b) → RunsWarm program order code p
  runs-warm laid b p = record {
    entered = block-entered b p;
    follows = block-follows b p;
    alone = block-alone b p;
    made = block-made b p;
    reads = λ method there. (block-once b p method there (laid b p method there)).read_once;
    writes = λ method there. (block-once b p method there (laid b p method there)).written_once;
    goes_on = λ words others y t d q on is_guest small no_jump same pc.
        block-goes-on b d p q (sym same) words others y t pc is_guest small on no_jump;
  }
