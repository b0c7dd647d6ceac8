-- A unit of a piece that another one follows.
use Rattle.std.proofs.Common.{◌≡◌, ℕ, ◌+◌, ◌*◌, ◌^◌, ◌<◌, Bool, true, List, [], ◌∷◌, ◌++◌, length, length-append, append_assoc, ap, subst, sym, ◌∙◌, arith}
use Rattle.std.proofs.lemmas.Bool.{true≢false}
use Rattle.run_definition.specs.declared.order.Order.{Order}
use Rattle.run_definition.specs.Turn.{Turn, moves, ends, leaves, asks}
use Rattle.mips_definition.specs.State.{State}
use Rattle.delay_slots.specs.declared.unit.Unit.{Unit as Word}
use Rattle.delay_slots.specs.declared.unit.Unit.TheVariants as units
use Rattle.delay_slots.specs.Units.{units_of}
use Rattle.delay_slots.specs.Turns.{done, unit_turns, last_turn}
use Rattle.block_builder.specs.Leaders.{is_plain}
use Rattle.block_builder.specs.Registers.{written_by}
use Rattle.jvm_definition.specs.declared.instruction.Instruction.{Instruction}
use Rattle.jvm_definition.specs.Effect.{Workspace}
use Rattle.emit_steps.specs.Widths.{size}
use Rattle.emit_instructions.specs.Units.{unit_code}
use Rattle.word_emitter.specs.Pieces.{bank_of, units_code}
use Rattle.emit_simulation_laws.specs.Lawful.{IsLawful}
use Rattle.emit_spans.specs.declared.span_words.SpanWords.{SpanWords}
use Rattle.emit_spans.specs.Neighbours.{address}
use Rattle.emit_spans.specs.Pieces.{piece_at}
use Rattle.emit_paths_laws.proofs.Joining.{no-turns}
use Rattle.emit_simulation_laws.specs.Sites.{Site, stands}
use Rattle.emit_simulation_laws.specs.Following.{Follows}
use Rattle.emit_simulation_laws.proofs.GuestFollows.Weights.{size-both}
use Rattle.emit_instructions_laws.specs.Pieces.{AreStraight}
use Rattle.emit_instructions_laws.proofs.PieceLaws.Turns.{GoesOrEnds, IsPast, plain-past}
use Rattle.emit_instructions_laws.specs.Units.{UnitArrives}
use Rattle.emit_instructions_laws.proofs.UnitLaws.Joining.{Maps, follows-after}
use Rattle.emit_spans_laws.specs.Spans.{HasSpan}
use Rattle.emit_spans_laws.proofs.SpanCodeLaws.Straight.{are-straight}
use Rattle.emit_spans_laws.proofs.SpanCodeLaws.Warm.{is-piece}
use Rattle.emit_spans_laws.specs.InPieces.{StandsInPiece, fetching, known_behind, offset_in, own_units}
use Rattle.emit_spans_laws.specs.Following.{UnitFollowsBy}
use Rattle.emit_spans_laws.proofs.SpanSteps.Lists.{code-both, straight-at}
use Rattle.emit_spans_laws.proofs.SpanSteps.Middle.{one-done}
use Rattle.emit_spans_laws.proofs.SpanSteps.Parts.{StepLaws, here-is, unit-lawful, word-below}

-- what is said of the end follows from something else in each state to which a turn moves, and it asks nothing
maps-moved : (P : State → Type 0) (First Then : Workspace → State → Type 0) → ((u : Workspace) (t : State) → P t → First u t → Then u t)
    → (turn : Turn State) → GoesOrEnds P turn → Maps turn First Then
maps-moved P First Then map (moves t) goes = λ u first. map u t goes first
maps-moved P First Then map (ends e) goes = tt
maps-moved P First Then map (leaves q e) goes = tt
maps-moved P First Then map (asks q next) goes = absurd goes

module _ (laws : StepLaws) (site : Site) (order : Order) (words : List ℕ) (leads : ℕ → Bool) (span : SpanWords) (has : HasSpan site words leads span)
    (k : ℕ) (front : List Word) (next : Word) (rest : List Word) (w : Workspace) (x : State) where
  abbrev unit_list : List Word
  unit_list = units_of words

  abbrev own : List Word
  own = own_units unit_list leads span k

  abbrev bank : ℕ
  bank = bank_of own

  abbrev at : ℕ
  at = offset_in unit_list leads span k front

  pub unit-plain : (unit : Word) → StandsInPiece order unit_list leads span k front unit (next ∷ rest) w x → is_plain unit ≡ true
  unit-plain unit s =
      straight-at front unit next rest
      (subst AreStraight s.parts
      (are-straight unit_list (piece_at unit_list leads span k) (is-piece laws.pieces site words leads span has k s.above s.below s.begin)))

  -- the offset behind the unit
  end-is : (unit : Word) → StandsInPiece order unit_list leads span k front unit (next ∷ rest) w x
      → at + size (unit_code bank unit x.pc) ≡ offset_in unit_list leads span k (front ++ unit ∷ [])
  end-is unit s =
      let a = address span k in
      let here = here-is laws site order words leads span has k front unit (next ∷ rest) w x s in
      let own_size : size (unit_code bank unit x.pc) ≡ size (unit_code bank unit (a + 4 * length front)) =
      ap (λ pc. size (unit_code bank unit pc)) here in
      let old = size-both (fetching own) (units_code bank front a) in
      let new = size-both (fetching own) (units_code bank (front ++ unit ∷ []) a) in
      let code : size (units_code bank (front ++ unit ∷ []) a) ≡ size (units_code bank front a ++ units_code bank (unit ∷ []) (a + 4 * length front)) =
      ap size (code-both bank front (unit ∷ []) a) in
      let both = size-both (units_code bank front a) (units_code bank (unit ∷ []) (a + 4 * length front)) in
      let one = size-both (unit_code bank unit (a + 4 * length front)) [] in
      omega (arith, own_size, old, new, code, both, one)

  pub plain-follows : (unit : Word) (total : (Instruction → ℕ) → ℕ) → StandsInPiece order unit_list leads span k front unit (next ∷ rest) w x
      → UnitFollowsBy site bank (known_behind own front) at total unit w x
      → Follows site at (offset_in unit_list leads span k (front ++ unit ∷ [])) 1 132 total
      (λ v t. StandsInPiece order unit_list leads span k (front ++ unit ∷ []) next rest v t) (stands site at w) (last_turn (unit_turns unit x))
  plain-follows (units.Plain i) total s follows =
      let unit : Word = units.Plain i in
      let lawful : IsLawful unit = unit-lawful laws site order words leads span has k front unit (next ∷ rest) w x s in
      let After : Workspace → State → Type 0 = λ v t. StandsInPiece order unit_list leads span k (front ++ unit ∷ []) next rest v t in
      let below : x.pc + 4 < 2 ^ 32 = (
      let there = s.pc in
      let room = has.below in
      let within = has.within in
      let inside = word-below laws site order words leads span has k front unit (next ∷ rest) w x s in
      omega (arith, there, room, within, inside)) in
      subst (λ high. Follows site at high 1 132 total After (stands site at w) (done i x)) (end-is unit s)
      (follows-after site at at (at + size (unit_code bank unit x.pc)) 0 1 132 1 132 (λ weight. 0) total total (stands site at w) (stands site at w)
      (no-turns site.program site.words site.method at at (stands site at w) (omega arith)) (omega arith) (omega arith) (λ weight. omega arith)
      (UnitArrives bank (known_behind own front) unit x.pc w) After (done i x)
      (maps-moved (IsPast (written_by i) x) (UnitArrives bank (known_behind own front) unit x.pc w) After
      (λ u t past arrives. record {
        above = s.above;
        below = s.below;
        begin = s.begin;
        parts = s.parts ∙ sym (append_assoc front (unit ∷ []) (next ∷ rest));
        inside = one-done laws.sets own front unit lawful w u x t s.inside past.left arrives.state;
        pc =
            let goes = past.next.pc in
            let there = s.pc in
            let more = length-append front (unit ∷ []) in
            omega (arith, goes, there, more, below);
        pending = past.next.pending;
        order_is = past.next.order ∙ s.order_is;
      })
      (done i x) (plain-past laws.pieces.change i x s.pending lawful.0.is_none lawful.1))
      follows)
  plain-follows (units.Branch i slot) total s follows = absurd (true≢false (sym (unit-plain (units.Branch i slot) s)))
  plain-follows (units.SlotMissing i) total s follows = absurd (true≢false (sym (unit-plain (units.SlotMissing i) s)))
  plain-follows (units.SlotIsBranch i word) total s follows = absurd (true≢false (sym (unit-plain (units.SlotIsBranch i word) s)))
  plain-follows units.Call total s follows = absurd (true≢false (sym (unit-plain units.Call s)))
  plain-follows (units.Trap kind value) total s follows = absurd (true≢false (sym (unit-plain (units.Trap kind value) s)))
