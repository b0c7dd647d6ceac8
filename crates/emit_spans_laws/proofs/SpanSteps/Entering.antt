-- From the code of the word with which a piece begins to the piece's first unit.
use Rattle.std.proofs.Common.{◌≡◌, ℕ, ◌+◌, ◌-◌, ◌≤◌, Bool, true, List, [], ◌∷◌, ◌++◌, length, map, append_assoc, refl, subst, arith}
use Rattle.run_definition.specs.declared.order.Order.{Order}
use Rattle.mips_definition.specs.State.{State}
use Rattle.delay_slots.specs.declared.unit.Unit.{Unit as Word}
use Rattle.delay_slots.specs.Units.{units_of}
use Rattle.jvm_definition.specs.Effect.{Workspace}
use Rattle.emit_steps.specs.declared.step.Step.{Step}
use Rattle.emit_steps.specs.Widths.{size}
use Rattle.emit_steps.specs.Placing.{LiesAt}
use Rattle.word_emitter.specs.Pieces.{bank_of, for_registers, is_needed, is_written, put_back, units_code}
use Rattle.emit_spans.specs.declared.span_words.SpanWords.{SpanWords}
use Rattle.emit_spans.specs.Pieces.{begins}
use Rattle.emit_spans.specs.Neighbours.{address, next_such}
use Rattle.emit_spans.specs.Parts.{extent, exit_of}
use Rattle.emit_spans.specs.Laying.{entry_at, laid_step, return_offset, targets_of}
use Rattle.emit_spans.proofs.StandingLemmas.{word-stands}
use Rattle.emit_simulation_laws.specs.Sites.{Site, stands, whole_weight}
use Rattle.emit_simulation_laws.specs.Following.{ComesToEnd}
use Rattle.emit_simulation_laws.proofs.GuestFollows.CodeLaws.{code-laws}
use Rattle.emit_simulation_laws.proofs.GuestFollows.Weights.{size-both}
use Rattle.emit_instructions_laws.proofs.PieceLaws.Arriving.{all-in-fields, begun}
use Rattle.emit_instructions_laws.proofs.PieceLaws.Fetching.{fetched-within, fetches}
use Rattle.emit_spans_laws.specs.Spans.{HasSpan, StandsAt}
use Rattle.emit_spans_laws.proofs.SpanCodeLaws.Warm.{PieceLaws, own-some, warm-lies}
use Rattle.emit_spans_laws.specs.InPieces.{StandsInPiece, fetching, offset_in, own_units}
use Rattle.emit_spans_laws.specs.Following.{EntersPiece}
use Rattle.emit_spans_laws.proofs.SpanSteps.Middle.{none-done}

-- The first unit of a piece, and the others.
record HasFirst (piece : List Word) : Type 0 where
  unit : Word
  rest : List Word
  is : piece ≡ unit ∷ rest

first-of : (piece : List Word) → 1 ≤ length piece → HasFirst piece
first-of [] some = absurd (omega (arith, some))
first-of (unit ∷ rest) some = record { unit = unit; rest = rest; is = refl }

regroup : (f u p m : List Step) → ((f ++ u) ++ p) ++ m ≡ f ++ (u ++ (p ++ m))
regroup f u p m = simp append_assoc

module _ (laws : PieceLaws) (site : Site) (order : Order) (words : List ℕ) (leads : ℕ → Bool) (span : SpanWords) (has : HasSpan site words leads span)
    (k : ℕ) (w : Workspace) (x : State) (s : StandsAt order span k w x) (begin : begins leads span k ≡ true) where
  abbrev unit_list : List Word
  unit_list = units_of words

  abbrev own : List Word
  own = own_units unit_list leads span k

  abbrev entry : ℕ
  entry = entry_at unit_list leads span k

  abbrev exit : List Step
  exit = map (laid_step (extent span) (targets_of unit_list leads span) (return_offset unit_list leads span))
      (exit_of unit_list span (next_such (begins leads span) span k) (k + length own - 1))

  abbrev more : List Step
  more = (word-stands unit_list leads span k s.above s.below).behind

  front-lies : LiesAt site.program site.method entry (fetching own)
  front-lies =
      let back = for_registers (is_written own) put_back in
      let middle = units_code (bank_of own) own (address span k) in
      (laws.units.paths.parts site.program site.method entry (fetching own) (middle ++ (back ++ (exit ++ more))) (fetched-within (is_needed own) 31 1)
      (subst (LiesAt site.program site.method entry) (regroup (fetching own) middle back (exit ++ more))
      (warm-lies laws site words leads span has k s.above s.below begin))).0

  pub enters : EntersPiece site order unit_list leads span k w x
  enters =
      let first = first-of own (own-some laws site words leads span has k s.above s.below begin) in
      let f = fetches site.program site.words (is_needed own) x.registers 31 1 w (omega arith) (omega arith) (all-in-fields w x s.rests.held) in
      let sizes = size-both (fetching own) [] in
      let end : entry + size (fetching own) ≡ offset_in unit_list leads span k [] = omega (arith, sizes) in
      let here : x.pc ≡ address span (k + 0) = (let there = s.pc in omega (arith, there)) in
      record {
        unit = first.unit;
        rest = first.rest;
        comes = subst (λ high. ComesToEnd site entry high 0 62 (whole_weight order (fetching own))
            (λ v. StandsInPiece order unit_list leads span k [] first.unit first.rest v x) (stands site entry w)) end
            ((code-laws laws.units.paths).end_follows site order entry 0 62 f.turns (fetching own) w f.after
            (λ v. StandsInPiece order unit_list leads span k [] first.unit first.rest v x) front-lies f.comes (omega arith) f.few
            (record {
              above = s.above;
              below = s.below;
              begin = begin;
              parts = first.is;
              inside = none-done own x w f.after s.rests.held s.rests.no_operands
                  (begun site.program site.words own w x s.rests.held f);
              pc = here;
              pending = s.pending;
              order_is = s.order_is;
            }));
      }
