-- The code of a unit of a piece: where it lies, and what lies behind it.
use Rattle.std.proofs.Common.{◌≡◌, ℕ, suc, ◌+◌, ◌-◌, ◌*◌, ◌<◌, ◌≤◌, Bool, true, min, List, ◌∷◌, ◌++◌, All, length, length-append, get_or, map, append_assoc, ap, subst, sym, ◌∙◌, arith}
use Rattle.run_definition.specs.declared.order.Order.{Order}
use Rattle.mips_definition.specs.State.{State}
use Rattle.delay_slots.specs.declared.unit.Unit.{Unit as Word}
use Rattle.delay_slots.specs.declared.unit.Unit.TheVariants as units
use Rattle.delay_slots.specs.Units.{units_of}
use Rattle.block_builder.specs.declared.block.Block.{Block}
use Rattle.block_builder.specs.Blocks.{IsPiece, block_from, unit_at}
use Rattle.jvm_definition.specs.Effect.{Workspace}
use Rattle.emit_steps.specs.declared.step.Step.{Step}
use Rattle.emit_steps.specs.Widths.{size}
use Rattle.emit_steps.specs.Outcomes.{stays_within}
use Rattle.emit_steps.specs.Placing.{LiesAt}
use Rattle.emit_instructions.specs.Units.{unit_code}
use Rattle.word_emitter.specs.Pieces.{bank_of, for_registers, is_needed, is_written, put_back, units_code}
use Rattle.emit_simulation_laws.specs.Lawful.{AreAllKnown, IsLawful, KnownByUnit}
use Rattle.emit_simulation_laws.proofs.PieceSets.{AreLawful, SetLaws, are-lawful, NeedLaws}
use Rattle.emit_spans.specs.declared.span_words.SpanWords.{SpanWords}
use Rattle.emit_spans.specs.Pieces.{piece_at, begins}
use Rattle.emit_spans.specs.Neighbours.{address, next_such}
use Rattle.emit_spans.specs.Parts.{extent, exit_of}
use Rattle.emit_spans.specs.Laying.{entry_at, laid_step, return_offset, targets_of}
use Rattle.emit_spans.proofs.StandingLemmas.{word-stands}
use Rattle.emit_spans.proofs.PieceLemmas.{unit-count}
use Rattle.emit_simulation_laws.specs.Sites.{Site}
use Rattle.emit_instructions_laws.specs.Pieces.{known_first}
use Rattle.emit_instructions_laws.proofs.PieceLaws.Fetching.{fetched-within}
use Rattle.emit_instructions_laws.proofs.PieceLaws.Sets.{needed-first}
use Rattle.emit_instructions_laws.proofs.PieceLaws.Within.{unit-stays, units-stay}
use Rattle.emit_spans_laws.specs.Spans.{HasSpan}
use Rattle.emit_spans_laws.proofs.SpanCodeLaws.Straight.{count-few, unit-is, units-count}
use Rattle.emit_spans_laws.proofs.SpanCodeLaws.Warm.{PieceLaws, is-piece, own-lawful, stays-both, warm-lies}
use Rattle.emit_spans_laws.specs.InPieces.{HasUnit, StandsInPiece, fetching, known_behind, offset_in, own_units}
use Rattle.emit_spans_laws.proofs.SpanSteps.Lists.{at-front, code-both, need-behind}

-- the laws that are needed
pub record StepLaws : Type 1 where
  pub pieces : PieceLaws
  pub sets : SetLaws
  pub need : NeedLaws

regroup : (f a b c p m : List Step) → ((f ++ (a ++ (b ++ c))) ++ p) ++ m ≡ (f ++ a) ++ (b ++ (c ++ (p ++ m)))
regroup f a b c p m = simp append_assoc

under : (a b : ℕ) → min a b ≤ b
under a b = omega arith

module _ (laws : StepLaws) (site : Site) (order : Order) (words : List ℕ) (leads : ℕ → Bool) (span : SpanWords) (has : HasSpan site words leads span)
    (k : ℕ) (front : List Word) (unit : Word) (rest : List Word) (w : Workspace) (x : State)
    (s : StandsInPiece order (units_of words) leads span k front unit rest w x) where
  abbrev unit_list : List Word
  unit_list = units_of words

  abbrev own : List Word
  own = own_units unit_list leads span k

  abbrev block : Block
  block = piece_at unit_list leads span k

  abbrev bank : ℕ
  bank = bank_of own

  abbrev entry : ℕ
  entry = entry_at unit_list leads span k

  -- the address of the unit
  abbrev here : ℕ
  here = address span k + 4 * length front

  pub here-is : x.pc ≡ here
  here-is = let there = s.pc in omega (arith, there)

  own-length : length own ≡ length front + suc (length rest)
  own-length = ap length s.parts ∙ length-append front (unit ∷ rest)

  pub piece-there : IsPiece unit_list block
  piece-there = is-piece laws.pieces site words leads span has k s.above s.below s.begin

  pub number-few : length front < unit-count unit_list block
  number-few = let n = units-count unit_list block piece-there in let total = own-length in omega (arith, n, total)

  pub word-below : k + length front < span.end
  word-below =
      let few = count-few unit_list block piece-there in
      let less = number-few in
      let cut : block.words ≤ span.end - k = under (block_from unit_list leads k).words (span.end - k) in
      omega (arith, few, less, cut)

  pub unit-there : unit ≡ unit_at unit_list (k + length front)
  unit-there =
      sym (at-front front unit rest)
      ∙ sym (ap (λ l. get_or l (length front) units.Call) s.parts)
      ∙ unit-is unit_list block piece-there (length front) number-few

  all-lawful : All IsLawful own
  all-lawful = own-lawful laws.pieces site words leads span has k s.above s.below s.begin

  pub lawful-there : AreLawful own
  lawful-there = are-lawful own all-lawful

  pub unit-lawful : IsLawful unit
  unit-lawful =
      let total = own-length in
      subst IsLawful (ap (λ l. get_or l (length front) units.Call) s.parts ∙ at-front front unit rest)
      (all-lawful (length front) units.Call (omega (arith, total)))

  unit-knows : KnownByUnit (known_behind own front) unit
  unit-knows =
      laws.need.unit_known unit (known_behind own front) unit-lawful
      (laws.need.first_known unit rest (known_behind own front)
      (need-behind laws.sets laws.need front (unit ∷ rest) (known_first own) (subst AreLawful s.parts lawful-there)
      (subst (λ piece. AreAllKnown (is_needed piece) (known_first own)) s.parts (needed-first own))))

  -- ---- the parts of the code

  abbrev front_code : List Step
  front_code = fetching own ++ units_code bank front (address span k)

  abbrev back : List Step
  back = for_registers (is_written own) put_back

  abbrev exit : List Step
  exit = map (laid_step (extent span) (targets_of unit_list leads span) (return_offset unit_list leads span))
      (exit_of unit_list span (next_such (begins leads span) span k) (k + length own - 1))

  abbrev more : List Step
  more = (word-stands unit_list leads span k s.above s.below).behind

  -- what is behind the unit
  abbrev later : List Step
  later = units_code bank rest (here + 4) ++ (back ++ (exit ++ more))

  code-is : units_code bank own (address span k) ≡ units_code bank front (address span k) ++ (unit_code bank unit here ++ units_code bank rest
      (here + 4))
  code-is = ap (λ piece. units_code bank piece (address span k)) s.parts ∙ code-both bank front (unit ∷ rest) (address span k)

  whole-lies : LiesAt site.program site.method entry (front_code ++ (unit_code bank unit here ++ later))
  whole-lies =
      subst (LiesAt site.program site.method entry)
      (ap (λ c. ((fetching own ++ c) ++ back) ++ (exit ++ more)) code-is
      ∙ regroup (fetching own) (units_code bank front (address span k)) (unit_code bank unit here) (units_code bank rest (here + 4)) back (exit ++ more))
      (warm-lies laws.pieces site words leads span has k s.above s.below s.begin)

  front-stays : stays_within front_code ≡ true
  front-stays = stays-both (fetching own) (units_code bank front (address span k)) (fetched-within (is_needed own) 31 1)
      (units-stay bank front (address span k))

  pub unit-parts : LiesAt site.program site.method (offset_in unit_list leads span k front) (unit_code bank unit here)
      × LiesAt site.program site.method (offset_in unit_list leads span k front + size (unit_code bank unit here)) later
  unit-parts =
      laws.pieces.units.paths.parts site.program site.method (offset_in unit_list leads span k front) (unit_code bank unit here) later
      (unit-stays bank unit here)
      (laws.pieces.units.paths.parts site.program site.method entry front_code (unit_code bank unit here ++ later) front-stays whole-lies).1

  pub unit-has : HasUnit site unit_list span (k + length front) bank (known_behind own front) (offset_in unit_list leads span k front) unit x
  unit-has = record {
    above = let first = s.above in omega (arith, first);
    below = word-below;
    is_there = unit-there;
    lawful = unit-lawful;
    lies = subst (λ pc. LiesAt site.program site.method (offset_in unit_list leads span k front) (unit_code bank unit pc)) (sym here-is) unit-parts.0;
    knows = unit-knows;
  }
