-- The code of a piece: its registers are fetched, its units are done, and its registers are put back.
use Rattle.std.proofs.Common.{◌≡◌, ◌≢◌, ℕ, ◌+◌, ◌*◌, ◌^◌, ◌<◌, ◌≤◌, List, [], ◌∷◌, ◌++◌, All, length, None, append_assoc, refl, subst, sym, arith}
use Rattle.run_definition.specs.declared.order.Order.{Order}
use Rattle.run_definition.specs.Turn.{Turn, moves, ends, leaves, asks}
use Rattle.mips_definition.specs.State.{State}
use Rattle.delay_slots.specs.declared.unit.Unit.{Unit as Word}
use Rattle.delay_slots.specs.Turns.{UnitTurns, one_turn, two_turns, unit_turns, turn_count, last_turn}
use Rattle.block_builder.specs.Laws.{InstructionsChangeWhatTheyWrite}
use Rattle.jvm_definition.specs.Effect.{Workspace}
use Rattle.emit_steps.specs.declared.step.Step.{Step}
use Rattle.emit_steps.specs.Widths.{size}
use Rattle.emit_steps.specs.Placing.{LiesAt}
use Rattle.word_emitter.specs.Pieces.{bank_of, fetched, is_needed, is_written, put_back, units_code}
use Rattle.emit_simulation_laws.specs.Lawful.{IsLawful}
use Rattle.emit_simulation_laws.proofs.PieceSets.{AreLawful, SetLaws, are-lawful, NeedLaws}
use Rattle.emit_simulation_laws.specs.Sites.{Site, stands, whole_weight}
use Rattle.emit_simulation_laws.specs.Following.{Follows}
use Rattle.emit_simulation_laws.specs.Laws.{PathLaws}
use Rattle.emit_simulation_laws.proofs.GuestFollows.CodeLaws.{code-laws}
use Rattle.emit_instructions_laws.specs.Instructions.{IsReady}
use Rattle.emit_instructions_laws.specs.Units.{UnitFollows}
use Rattle.emit_instructions_laws.specs.Pieces.{AreStraight, HoldsAll, PieceArrives, PieceFollows, known_first, piece_turns, then_turns}
use Rattle.emit_instructions_laws.proofs.PieceLaws.Arriving.{HasBegun, all-in-fields, arrived, begun, written-there}
use Rattle.emit_instructions_laws.proofs.PieceLaws.Behind.{three-parts}
use Rattle.emit_instructions_laws.proofs.PieceLaws.Fetching.{each_code, fetched-within, fetches, puts-back}
use Rattle.emit_instructions_laws.proofs.PieceLaws.Running.{HasRun, units-follow}
use Rattle.emit_instructions_laws.proofs.PieceLaws.Sets.{needed-first}
use Rattle.emit_instructions_laws.proofs.PieceLaws.Within.{units-stay}

-- a piece has a turn

some-turn : (turns : UnitTurns) → 1 ≤ turn_count turns
some-turn (one_turn last) = omega arith
some-turn (two_turns slot last) = omega arith

some-more : (n : ℕ) (last : Turn State) (rest : State → ℕ × Turn State) → 1 ≤ n → 1 ≤ (then_turns n last rest).0
some-more n (moves t) rest some = omega (arith, some)
some-more n (ends e) rest some = some
some-more n (leaves q e) rest some = some
some-more n (asks q next) rest some = some

module _ (laws : PathLaws) (sets : SetLaws) (change : InstructionsChangeWhatTheyWrite) (need : NeedLaws)
    (unit_follows : (unit : Word) → IsLawful unit → UnitFollows unit) where
  module _ (unit : Word) (rest : List Word) (lawful : AreLawful (unit ∷ rest)) (straight : AreStraight (unit ∷ rest)) (site : Site) (order : Order)
      (at : ℕ) (w : Workspace) (x : State) (ready : IsReady site order) (order_is : x.order ≡ order) (free : x.pending ≡ None)
      (below : x.pc + 4 * length (unit ∷ rest) < 2 ^ 32) (h : HoldsAll w x) where
    abbrev piece : List Word
    piece = unit ∷ rest

    abbrev front : List Step
    front = each_code (is_needed piece) fetched 1 31

    abbrev middle : List Step
    middle = units_code (bank_of piece) piece x.pc

    abbrev back : List Step
    back = each_code (is_written piece) put_back 1 31

    -- the code follows, wherever it lies
    abbrev CodeFollows : List Step → Type 0
    CodeFollows code =
        LiesAt site.program site.method at code
        → Follows site at (at + size code) (piece_turns piece x).0 (256 * (piece_turns piece x).0) (whole_weight order code) (PieceArrives piece x.pc w)
        (stands site at w) (piece_turns piece x).1

    parts-follow : CodeFollows (front ++ (middle ++ back))
    parts-follow lies =
        let first = laws.parts site.program site.method at front (middle ++ back) (fetched-within (is_needed piece) 31 1) lies in
        let second = laws.parts site.program site.method (at + size front) middle back (units-stay (bank_of piece) piece x.pc) first.1 in
        let f = fetches site.program site.words (is_needed piece) x.registers 31 1 w (omega arith) (omega arith) (all-in-fields w x h) in
        three-parts site order at (piece_turns piece x).0 front middle back w (piece_turns piece x).1 (HasBegun piece x w)
        (HasRun (bank_of piece) (known_first piece) piece x) (PieceArrives piece x.pc w)
        (some-more (turn_count (unit_turns unit x)) (last_turn (unit_turns unit x)) (piece_turns rest) (some-turn (unit_turns unit x)))
        ((code-laws laws).end_follows site order at 0 62 f.turns front w f.after (HasBegun piece x w) first.0 f.comes (omega arith) f.few
        (begun site.program site.words piece w x h f))
        (λ v begins.
        units-follow laws sets change need unit_follows site order (bank_of piece) ready rest unit (known_first piece) (at + size front) v x lawful
        straight order_is free below second.0 (needed-first piece) begins.held)
        (λ v u t begins runs.
        let p = puts-back site.program site.words (is_written piece) t.registers 31 1 u (omega arith) (omega arith)
        (written-there sets site.program site.words unit rest lawful w v u x t h begins runs) in
        (code-laws laws).end_follows site order (at + size front + size middle) 0 62 p.turns back u p.after (λ z. PieceArrives piece x.pc w z t) second.1
        p.comes (omega arith) p.few
        (arrived sets site.program site.words unit rest lawful w v u x t h begins runs p))

    piece-follows : CodeFollows (front ++ middle ++ back)
    piece-follows = subst CodeFollows (sym (append_assoc front middle back)) parts-follow

  pub pieces-follow : (piece : List Word) → piece ≢ [] → All IsLawful piece → AreStraight piece → PieceFollows piece
  pieces-follow [] some lawful straight = absurd (some refl)
  pieces-follow (unit ∷ rest) some lawful straight = λ site order at w x ready order_is free below lies h.
      piece-follows unit rest (are-lawful (unit ∷ rest) lawful) straight site order at w x ready order_is free below h lies
