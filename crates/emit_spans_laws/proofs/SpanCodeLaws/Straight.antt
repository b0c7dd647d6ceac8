-- The units of a piece: all but the last are Plain, and where the last one leads.
use Rattle.std.proofs.Common.{◌≡◌, ℕ, zero, suc, ◌+◌, ◌-◌, ◌*◌, ◌^◌, ◌<◌, ◌≤◌, ◌==◌, nat_le, Bool, true, false, if◌then◌else◌, min, List, [], ◌∷◌, All, length, take, drop, get_or, None, refl, ap, subst, sym, ◌∙◌, arith}
use Rattle.std.specs.List.{AllByRecursion}
use Rattle.std.proofs.lemmas.Bool.{true≢false, and_parts, leb-true}
use Rattle.std.proofs.lemmas.List.{get_or-drop, get_or-take, length-take-le, length-drop}
use Rattle.run_definition.specs.Turn.{Turn, moves, ends, leaves, asks}
use Rattle.mips_definition.specs.State.{State}
use Rattle.delay_slots.specs.declared.unit.Unit.{Unit as Word}
use Rattle.delay_slots.specs.declared.unit.Unit.TheVariants as units
use Rattle.delay_slots.specs.Turns.{unit_turns, turn_count, last_turn}
use Rattle.block_builder.specs.declared.block.Block.{Block}
use Rattle.block_builder.specs.Blocks.{IsPiece, end_of, unit_at}
use Rattle.block_builder.specs.Leaders.{is_plain, words_of}
use Rattle.block_builder.specs.Laws.{InstructionsChangeWhatTheyWrite}
use Rattle.block_builder.specs.Registers.{written_by}
use Rattle.jvm_definition.specs.Effect.{Workspace}
use Rattle.word_emitter.specs.Pieces.{ends_with_slot, piece_units}
use Rattle.emit_simulation_laws.specs.Lawful.{IsLawful}
use Rattle.emit_spans.specs.declared.span_words.SpanWords.{SpanWords}
use Rattle.emit_spans.specs.Pieces.{piece_at}
use Rattle.emit_spans.proofs.PieceLemmas.{unit-count, unit-followed}
use Rattle.emit_instructions_laws.specs.Pieces.{AreStraight, PieceGoal, UnitGoal, piece_turns, then_turns}
use Rattle.emit_instructions_laws.proofs.PieceLaws.Turns.{GoesOrEnds, IsPast, plain-past}
use Rattle.emit_spans_laws.proofs.SpanCodeLaws.Joining.{Reaches}
use Rattle.emit_spans_laws.proofs.SpanCodeLaws.Leading.{LeadsTo, unit-leads}

-- ---- the last unit

abbrev pub last_unit : Word → List Word → Word
last_unit unit [] = unit
last_unit unit (next ∷ rest) = last_unit next rest

pub last-is : (rest : List Word) (unit : Word) → last_unit unit rest ≡ get_or (unit ∷ rest) (length rest) units.Call
last-is [] unit = refl
last-is (next ∷ rest) unit = last-is rest next

pub last-goal : (rest : List Word) (unit : Word) (at : ℕ) (before after : Workspace) (t : State) → PieceGoal (unit ∷ rest) at before after t
    → UnitGoal (last_unit unit rest) (at + 4 * length rest) before after t
last-goal [] unit at before after t goal =
    let here : at ≡ at + 4 * 0 = omega arith in
    subst (λ a. UnitGoal unit a before after t) here goal
last-goal (next ∷ rest) unit at before after t goal =
    let there : at + 4 + 4 * length rest ≡ at + 4 * length (next ∷ rest) = omega arith in
    subst (λ a. UnitGoal (last_unit next rest) a before after t) there (last-goal rest next (at + 4) before after t goal)

-- ---- where a piece leads

then-nothing : (P : State → Type 0) (n : ℕ) (last : Turn State) → Reaches P last → Reaches P (then_turns n last (piece_turns [])).1
then-nothing P n (moves t) all = all
then-nothing P n (ends e) all = tt
then-nothing P n (leaves q e) all = tt
then-nothing P n (asks q next) all = all

then-more : (P Q : State → Type 0) (n : ℕ) (last : Turn State) (rest : State → ℕ × Turn State) → GoesOrEnds Q last
    → ((t : State) → Q t → Reaches P (rest t).1) → Reaches P (then_turns n last rest).1
then-more P Q n (moves t) rest goes later = later t goes
then-more P Q n (ends e) rest goes later = tt
then-more P Q n (leaves q e) rest goes later = absurd goes
then-more P Q n (asks q next) rest goes later = absurd goes

abbrev pub AreLawful : List Word → Type 0
AreLawful piece = AllByRecursion IsLawful piece

pub are-lawful : (piece : List Word) → All IsLawful piece → AreLawful piece
are-lawful [] all = tt
are-lawful (unit ∷ piece) all = (all 0 units.Call (omega arith), are-lawful piece (λ k d below. all (suc k) d (omega (arith, below))))

module _ (change : InstructionsChangeWhatTheyWrite) where
  pub piece-leads : (rest : List Word) (unit : Word) (x : State) → AreLawful (unit ∷ rest) → AreStraight (unit ∷ rest) → x.pending ≡ None
      → x.pc + 4 * length (unit ∷ rest) < 2 ^ 32
      → Reaches (λ (t : State). LeadsTo (last_unit unit rest) (x.pc + 4 * length rest) t.pc) (piece_turns (unit ∷ rest) x).1
  piece-leads [] unit x lawful straight free below =
      let here : x.pc ≡ x.pc + 4 * 0 = omega arith in
      then-nothing (λ (t : State). LeadsTo unit (x.pc + 4 * 0) t.pc) (turn_count (unit_turns unit x)) (last_turn (unit_turns unit x))
      (subst (λ pc. Reaches (λ (t : State). LeadsTo unit pc t.pc) (last_turn (unit_turns unit x))) here (unit-leads unit x lawful.0 free))
  piece-leads (next ∷ rest) (units.Plain i) x lawful straight free below =
      then-more (λ (t : State). LeadsTo (last_unit next rest) (x.pc + 4 * length (next ∷ rest)) t.pc) (IsPast (written_by i) x) 1
      (last_turn (unit_turns (units.Plain i) x)) (piece_turns (next ∷ rest)) (plain-past change i x free lawful.0.0.is_none lawful.0.1)
      (λ t past.
      let there : t.pc ≡ x.pc + 4 = (let e = past.next.pc in omega (arith, e, below)) in
      let address : t.pc + 4 * length rest ≡ x.pc + 4 * length (next ∷ rest) = omega (arith, there) in
      subst (λ a. Reaches (λ (u : State). LeadsTo (last_unit next rest) a u.pc) (piece_turns (next ∷ rest) t).1) address
      (piece-leads rest next t lawful.1 straight.1 past.next.pending (omega (arith, there, below))))
  piece-leads (next ∷ rest) (units.Branch i slot) x lawful straight free below = absurd (true≢false (sym straight.0))
  piece-leads (next ∷ rest) (units.SlotMissing i) x lawful straight free below = absurd (true≢false (sym straight.0))
  piece-leads (next ∷ rest) (units.SlotIsBranch i word) x lawful straight free below = absurd (true≢false (sym straight.0))
  piece-leads (next ∷ rest) units.Call x lawful straight free below = absurd (true≢false (sym straight.0))
  piece-leads (next ∷ rest) (units.Trap kind value) x lawful straight free below = absurd (true≢false (sym straight.0))

-- ---- which units are Plain

straight-take : (n : ℕ) (xs : List Word) → ((i : ℕ) → i + 1 < n → is_plain (get_or xs i units.Call) ≡ true) → AreStraight (take n xs)
straight-take zero xs plain = tt
straight-take (suc n) [] plain = tt
straight-take (suc zero) (unit ∷ xs) plain = tt
straight-take (suc (suc n)) (unit ∷ []) plain = tt
straight-take (suc (suc n)) (unit ∷ next ∷ xs) plain =
    (plain 0 (omega arith), straight-take (suc n) (next ∷ xs) (λ i less. plain (suc i) (omega (arith, less))))

module _ (unit_list : List Word) (b : Block) (piece : IsPiece unit_list b) where
  pub are-straight : AreStraight (piece_units unit_list b)
  are-straight = straight-take (unit-count unit_list b) (drop b.first unit_list)
      (λ i less.
      let at : get_or (drop b.first unit_list) i units.Call ≡ unit_at unit_list (b.first + i) = get_or-drop b.first unit_list i units.Call in
      ap is_plain at ∙ piece.straight (b.first + i) (omega arith) (unit-followed unit_list b i less))

  pub count-few : unit-count unit_list b ≤ b.words
  count-few = by_test (ends_with_slot unit_list b)
    where
      by_test : (slot : Bool) → (if slot then b.words - 1 else b.words) ≤ b.words
      by_test true = omega arith
      by_test false = omega arith

  pub units-count : length (piece_units unit_list b) ≡ unit-count unit_list b
  units-count =
      let within = piece.within in
      let few = count-few in
      let left = length-drop b.first unit_list in
      length-take-le (unit-count unit_list b) (drop b.first unit_list) (omega (arith, within, few, left))

  pub count-some : 1 ≤ b.words → 1 ≤ unit-count unit_list b
  count-some some = by_test (ends_with_slot unit_list b) refl
    where
      by_test : (slot : Bool) → ends_with_slot unit_list b ≡ slot → 1 ≤ (if slot then b.words - 1 else b.words)
      by_test true is =
          let parts = and_parts (nat_le 2 b.words) (words_of (unit_at unit_list (b.first + b.words - 2)) == 2) is in
          let two : 2 ≤ b.words = leb-true 2 b.words parts.0 in
          omega (arith, two)
      by_test false is = some

  pub unit-is : (i : ℕ) → i < unit-count unit_list b → get_or (piece_units unit_list b) i units.Call ≡ unit_at unit_list (b.first + i)
  unit-is i less = get_or-take (unit-count unit_list b) (drop b.first unit_list) i units.Call less ∙ get_or-drop b.first unit_list i units.Call

-- ---- a piece of a span has a unit

words-some : (unit : Word) → 1 ≤ words_of unit
words-some (units.Branch i slot) = omega arith
words-some (units.Plain i) = omega arith
words-some (units.SlotMissing i) = omega arith
words-some (units.SlotIsBranch i word) = omega arith
words-some units.Call = omega arith
words-some (units.Trap kind value) = omega arith

some-of : (a b : ℕ) → 1 ≤ a → 1 ≤ b → 1 ≤ min a b
some-of a b first second = omega (arith, first, second)

pub piece-some : (unit_list : List Word) (leads : ℕ → Bool) (span : SpanWords) (k : ℕ) → k < span.end
    → IsPiece unit_list (piece_at unit_list leads span k) → 1 ≤ length (piece_units unit_list (piece_at unit_list leads span k))
piece-some unit_list leads span k below piece =
    let block = piece_at unit_list leads span k in
    let last_words = words-some (unit_at unit_list (end_of unit_list leads k)) in
    let n = units-count unit_list block piece in
    let some = count-some unit_list block piece
    (some-of (end_of unit_list leads k - k + words_of (unit_at unit_list (end_of unit_list leads k))) (span.end - k)
    (omega (arith, last_words)) (omega (arith, below))) in
    omega (arith, n, some)
