-- The pieces of a span as turns of the guest; where the classes hold its state; and what a return does.
use Rattle.std.proofs.Common.{◌≡◌, ℕ, ◌<◌, ◌==◌, ◌&&◌, nat_lt, Bool, true, false, if◌then◌else◌, List, [], ◌∷◌, All, drop, None, refl, ap, subst, sym, ◌∙◌, arith}
use Rattle.std.proofs.lemmas.List.Elements.{All-take, All-drop}
use Rattle.std.proofs.lemmas.Nat.Bits.{bit_at-zero}
use Rattle.std.specs.Int.{bit_at}
use Rattle.mips_definition.specs.State.{State}
use Rattle.delay_slots.specs.declared.unit.Unit.{Unit as Word}
use Rattle.delay_slots.specs.Units.{units_of}
use Rattle.delay_slots.specs.Laws.{UnitsAreMade, UnitsLeadOn}
use Rattle.delay_slots.specs.Turns.{StandsAt}
use Rattle.block_builder.specs.declared.block.Block.{Block}
use Rattle.block_builder.specs.Blocks.{IsPiece}
use Rattle.block_builder.specs.Laws.{InstructionsChangeWhatTheyWrite}
use Rattle.jvm_definition.specs.Effect.{Workspace}
use Rattle.jvm_definition.specs.Step as machine
use Rattle.jvm_definition.specs.declared.value.Value.{Value}
use Rattle.emit_steps.specs.Placing.{LiesAt}
use Rattle.emit_layout.specs.FieldNumbers.{register_field}
use Rattle.emit_instructions.specs.Access.{keeps}
use Rattle.word_emitter.specs.Pieces.{piece_units}
use Rattle.emit_steps.specs.Returning.{returns}
use Rattle.emit_simulation_laws.specs.Lawful.{IsLawful}
use Rattle.emit_spans.specs.declared.span_words.SpanWords.{SpanWords}
use Rattle.emit_spans.specs.Pieces.{piece_at}
use Rattle.emit_spans.proofs.PieceLemmas.{unit-count}
use Rattle.emit_simulation_laws.specs.Holding.{Holds, reached}
use Rattle.emit_simulation_laws.specs.Sites.{Site, stands, turn_in}
use Rattle.emit_instructions_laws.specs.Pieces.{HoldsAll, piece_turns}
use Rattle.emit_spans_laws.proofs.SpanCodeLaws.Made.{IsMade, are-at, list-made}
use Rattle.emit_spans_laws.proofs.SpanCodeLaws.Straight.{are-lawful, are-straight, count-few, piece-some}

-- ---- the state is held in fields and arrays alone

none-kept : (r : ℕ) → keeps 0 r ≡ false
none-kept r = by_width (nat_lt r 32)
  where
    by_width : (b : Bool) → (b && bit_at 0 r == 1) ≡ false
    by_width true = ap (λ n. n == 1) (bit_at-zero r)
    by_width false = refl

pub held-again : (w v : Workspace) (t : State) → v.fields ≡ w.fields → v.heap ≡ w.heap → HoldsAll w t → HoldsAll v t
held-again w v t fields heap h =
    let g = subst (λ heap. Holds (λ r. true) (reached 0 w) v.fields heap t.registers t.hi t.lo t.load_link t.memory) (sym heap)
    (subst (λ fields. Holds (λ r. true) (reached 0 w) fields w.heap t.registers t.hi t.lo t.load_link t.memory) (sym fields) h) in
    record {
      register_is = λ r above below known.
          ap (λ b. if b then v.locals r else v.fields (register_field r)) (none-kept r)
          ∙ ap (λ (fields : ℕ → Value). fields (register_field r)) fields
          ∙ sym (ap (λ b. if b then w.locals r else w.fields (register_field r)) (none-kept r))
          ∙ h.register_is r above below known;
      register_word = g.register_word;
      hi_is = g.hi_is;
      hi_word = g.hi_word;
      lo_is = g.lo_is;
      lo_word = g.lo_word;
      pc = g.pc;
      pc_is = g.pc_is;
      link_is = g.link_is;
      readable = g.readable;
      readable_is = g.readable_is;
      writable = g.writable;
      writable_is = g.writable_is;
      memory_held = g.memory_held;
    }

-- ---- a return

pub return-turn : (site : Site) (at : ℕ) (w : Workspace) → LiesAt site.program site.method at (returns ∷ [])
    → turn_in site (stands site at w) ≡ machine.returned_to site.others None w
return-turn site at w lies =
    ap (machine.executed_line site.program site.words (stands site at w)
    (record { method = site.method; at = at; locals = w.locals; operands = w.operands }) site.others) lies.0

-- ---- pieces

module _ (words : List ℕ) (leads : ℕ → Bool) (span : SpanWords) (k : ℕ) (below : k < span.end)
    (piece : IsPiece (units_of words) (piece_at (units_of words) leads span k)) where
  abbrev block : Block
  block = piece_at (units_of words) leads span k

  abbrev own : List Word
  own = piece_units (units_of words) block

  pub own-made : (change : InstructionsChangeWhatTheyWrite) (turns_made : UnitsAreMade) (leads_on : UnitsLeadOn) (x : State)
      → All IsLawful (units_of words) → StandsAt x span.start words k → IsMade x (piece_turns own x)
  own-made change turns_made leads_on x lawful s =
      let few = count-few (units_of words) block piece in
      let within = piece.within in
      list-made change turns_made leads_on span.start words own k x (piece-some (units_of words) leads span k below piece) s
      (are-at (units_of words) (unit-count (units_of words) block) k (omega (arith, few, within)))
      (are-lawful own (All-take IsLawful (unit-count (units_of words) block) (drop k (units_of words))
      (All-drop IsLawful k (units_of words) lawful)))
      (are-straight (units_of words) block piece)
