-- The guest machine makes the turns of a piece.
use Rattle.std.proofs.Common.{◌≡◌, ℕ, zero, suc, ◌+◌, ◌%◌, ◌^◌, ◌<◌, ◌≤◌, true, List, [], ◌∷◌, length, take, drop, slice_get, None, Some, refl, ap, subst, sym, ◌∙◌, arith}
use Rattle.std.specs.Bool.{⊤}
use Rattle.std.proofs.lemmas.Bool.{true≢false}
use Rattle.std.proofs.lemmas.Option.{slice_get-get_or, slice_get_within}
use Rattle.std.proofs.lemmas.List.{drop_more}
use Rattle.run_definition.specs.Turn.{Turn, moves, ends, leaves, asks}
use Rattle.run_simulation_laws.specs.Trail.{advanced, if_moves}
use Rattle.mips_definition.specs.State.{State}
use Rattle.mips_definition.specs.Step.{turn}
use Rattle.delay_slots.specs.declared.unit.Unit.{Unit as Word}
use Rattle.delay_slots.specs.declared.unit.Unit.TheVariants as units
use Rattle.delay_slots.specs.Units.{units_of}
use Rattle.delay_slots.specs.Laws.{UnitsAreMade, UnitsLeadOn}
use Rattle.delay_slots.specs.Turns.{UnitTurns, one_turn, two_turns, unit_turns, turn_count, last_turn, done, AreMade, HasRange, IsBetweenUnits, LeadsOn, StandsAt}
use Rattle.block_builder.specs.Laws.{InstructionsChangeWhatTheyWrite}
use Rattle.block_builder.specs.Registers.{written_by}
use Rattle.emit_instructions_laws.specs.Pieces.{AreStraight, piece_turns, then_turns}
use Rattle.emit_instructions_laws.proofs.PieceLaws.Turns.{GoesOrEnds, IsPast, plain-past}
use Rattle.emit_spans_laws.specs.Made.{AreTurns}
use Rattle.emit_spans_laws.proofs.SpanCodeLaws.Straight.{AreLawful}
use Rattle.emit_spans_laws.proofs.SpanCodeLaws.Words.{units-length}

-- the units stand in the range from a word on
abbrev pub AreAt : List Word → ℕ → List Word → Type 0
AreAt all k [] = ⊤
AreAt all k (unit ∷ rest) = (slice_get all k ≡ Some unit) × AreAt all (k + 1) rest

pub are-at : (all : List Word) (n k : ℕ) → k + n ≤ length all → AreAt all k (take n (drop k all))
are-at all zero k within = tt
are-at all (suc n) k within =
    let below : k < length all = omega (arith, within) in
    subst (λ l. AreAt all k (take (suc n) l)) (sym (drop_more all k units.Call below))
    (slice_get-get_or all k units.Call below, are-at all n (k + 1) (omega (arith, within)))

-- ---- one unit

unit-made : (x : State) (turns : UnitTurns) → AreMade x turns → AreTurns x (turn_count turns) (last_turn turns)
unit-made x (one_turn last) made = record { earlier = 0; before = x; comes = refl; last_is = made; count = refl }
unit-made x (two_turns slot last) made = record {
  earlier = 1;
  before = slot;
  comes = ap (λ t. if_moves t None (advanced turn 0)) made.0;
  last_is = made.1;
  count = refl;
}

alone-made : (x : State) (n : ℕ) (last : Turn State) → AreTurns x n last
    → AreTurns x (then_turns n last (piece_turns [])).0 (then_turns n last (piece_turns [])).1
alone-made x n (moves t) made = let more : n ≡ n + 0 = omega arith in subst (λ m. AreTurns x m (moves t)) more made
alone-made x n (ends e) made = made
alone-made x n (leaves q e) made = made
alone-made x n (asks q next) made = made

alone-leads : (x : State) (n : ℕ) (last : Turn State) → LeadsOn x last → LeadsOn x (then_turns n last (piece_turns [])).1
alone-leads x n (moves t) on = on
alone-leads x n (ends e) on = tt
alone-leads x n (leaves q e) on = tt
alone-leads x n (asks q next) on = on

-- ---- and the others behind it

between-both : (x t u : State) → IsBetweenUnits x t → IsBetweenUnits t u → IsBetweenUnits x u
between-both x t u a b = record {
  begun = b.begun;
  pending = b.pending;
  code = b.code ∙ a.code;
  order = b.order ∙ a.order;
  heap_start = b.heap_start ∙ a.heap_start;
  heap_bytes = b.heap_bytes ∙ a.heap_bytes;
}

leads-both : (x t : State) (last : Turn State) → IsBetweenUnits x t → LeadsOn t last → LeadsOn x last
leads-both x t (moves u) a on = between-both x t u a on
leads-both x t (ends e) a on = tt
leads-both x t (leaves q e) a on = tt
leads-both x t (asks q next) a on = λ answer. between-both x t (next answer) a (on answer)

-- what is said of the turns of a piece
pub record IsMade (x : State) (turns : ℕ × Turn State) : Type 0 where
  pub made : AreTurns x turns.0 turns.1
  pub leads : LeadsOn x turns.1

more-made : (P : State → Type 0) (x : State) (d : Turn State) (rest : State → ℕ × Turn State) → turn x ≡ d → GoesOrEnds P d → LeadsOn x d
    → ((t : State) → P t → IsBetweenUnits x t → IsMade t (rest t)) → IsMade x (then_turns 1 d rest)
more-made P x (moves t) rest is goes on later =
    let r = later t goes on in
    let n = r.made.count in
    record {
      made = record {
        earlier = suc r.made.earlier;
        before = r.made.before;
        comes = ap (λ u. if_moves u None (advanced turn r.made.earlier)) is ∙ r.made.comes;
        last_is = r.made.last_is;
        count = omega (arith, n);
      };
      leads = leads-both x t (rest t).1 on r.leads;
    }
more-made P x (ends e) rest is goes on later =
    record { made = record { earlier = 0; before = x; comes = refl; last_is = is; count = refl }; leads = tt }
more-made P x (leaves q e) rest is goes on later = absurd goes
more-made P x (asks q next) rest is goes on later = absurd goes

module _ (change : InstructionsChangeWhatTheyWrite) (turns_made : UnitsAreMade) (leads_on : UnitsLeadOn) (first : ℕ) (words : List ℕ) where
  stands-next : (k : ℕ) (x t : State) (next : Word) → StandsAt x first words k → t.pc ≡ (x.pc + 4) % 2 ^ 32 → IsBetweenUnits x t
      → slice_get (units_of words) (k + 1) ≡ Some next → StandsAt t first words (k + 1)
  stands-next k x t next s pc between there =
      let inside = slice_get_within (units_of words) (k + 1) next there in
      let total = units-length words in
      let below = s.range.below_end in
      let here = s.pc in
      record {
        begun = between.begun;
        pending = between.pending;
        pc = omega (arith, pc, here, inside, total, below);
        in_range = omega (arith, inside, total);
        range = subst (λ code. HasRange code first words) (sym between.code) s.range;
      }

  pub piece-made : (rest : List Word) (unit : Word) (k : ℕ) (x : State) → StandsAt x first words k → AreAt (units_of words) k (unit ∷ rest)
      → AreLawful (unit ∷ rest) → AreStraight (unit ∷ rest) → IsMade x (piece_turns (unit ∷ rest) x)
  piece-made [] unit k x s at lawful straight = record {
    made = alone-made x (turn_count (unit_turns unit x)) (last_turn (unit_turns unit x))
        (unit-made x (unit_turns unit x) (turns_made x first words k unit s at.0));
    leads = alone-leads x (turn_count (unit_turns unit x)) (last_turn (unit_turns unit x)) (leads_on x words k unit s.begun at.0);
  }
  piece-made (next ∷ rest) (units.Plain i) k x s at lawful straight =
      more-made (IsPast (written_by i) x) x (done i x) (piece_turns (next ∷ rest)) (turns_made x first words k (units.Plain i) s at.0)
      (plain-past change i x s.pending lawful.0.0.is_none lawful.0.1) (leads_on x words k (units.Plain i) s.begun at.0)
      (λ t past between.
      piece-made rest next (k + 1) t (stands-next k x t next s past.next.pc between at.1.0) at.1 lawful.1 straight.1)
  piece-made (next ∷ rest) (units.Branch i slot) k x s at lawful straight = absurd (true≢false (sym straight.0))
  piece-made (next ∷ rest) (units.SlotMissing i) k x s at lawful straight = absurd (true≢false (sym straight.0))
  piece-made (next ∷ rest) (units.SlotIsBranch i word) k x s at lawful straight = absurd (true≢false (sym straight.0))
  piece-made (next ∷ rest) units.Call k x s at lawful straight = absurd (true≢false (sym straight.0))
  piece-made (next ∷ rest) (units.Trap kind value) k x s at lawful straight = absurd (true≢false (sym straight.0))

  pub list-made : (piece : List Word) (k : ℕ) (x : State) → 1 ≤ length piece → StandsAt x first words k → AreAt (units_of words) k piece
      → AreLawful piece → AreStraight piece → IsMade x (piece_turns piece x)
  list-made [] k x some s at lawful straight = absurd (omega (arith, some))
  list-made (unit ∷ rest) k x some s at lawful straight = piece-made rest unit k x s at lawful straight
