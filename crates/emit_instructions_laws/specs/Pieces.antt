-- When the code of a piece follows the turns of the piece's units.
use Rattle.std.specs.Prelude.{◌≡◌, ◌≢◌, ℕ, ◌+◌, ◌*◌, ◌^◌, ◌<◌, Bool, true, not, ◌||◌, All, List, [], ◌∷◌, length, None, ⊤}
use Rattle.run_definition.specs.declared.order.Order.{Order}
use Rattle.run_definition.specs.Turn.{Turn, moves}
use Rattle.mips_definition.specs.State.{State}
use Rattle.delay_slots.specs.declared.unit.Unit.{Unit}
use Rattle.delay_slots.specs.declared.unit.Unit.TheVariants as units
use Rattle.delay_slots.specs.Places.{Address}
use Rattle.delay_slots.specs.Turns.{unit_turns, turn_count, last_turn}
use Rattle.block_builder.specs.Leaders.{is_plain}
use Rattle.jvm_definition.specs.Effect.{Workspace}
use Rattle.emit_steps.specs.Widths.{size}
use Rattle.emit_steps.specs.Offsets.{CodeOffset}
use Rattle.emit_steps.specs.Placing.{LiesAt}
use Rattle.emit_instructions.specs.Access.{keeps}
use Rattle.word_emitter.specs.Pieces.{bank_of, is_needed, warm_code}
use Rattle.emit_simulation_laws.specs.Lawful.{IsLawful}
use Rattle.emit_simulation_laws.specs.Behind.{SaysGoal}
use Rattle.emit_simulation_laws.specs.Holding.{HoldsOn}
use Rattle.emit_simulation_laws.specs.Sites.{Site, stands, whole_weight}
use Rattle.emit_simulation_laws.specs.Following.{Follows}
use Rattle.emit_instructions_laws.specs.Instructions.{IsReady}

-- ---- the turns of units that are done one after the other

-- so many turns of which this is the last, and where it moves, those that follow
abbrev pub then_turns : ℕ → Turn State → (State → ℕ × Turn State) → ℕ × Turn State
then_turns n (moves t) rest = (n + (rest t).0, (rest t).1)
then_turns n last rest = (n, last)

-- how many turns the units have from a state, and the last of them
abbrev pub piece_turns : List Unit → State → ℕ × Turn State
piece_turns [] x = (0, moves x)
piece_turns (unit ∷ units) x =
    then_turns (turn_count (unit_turns unit x)) (last_turn (unit_turns unit x)) (piece_turns units)

-- each unit but the last is Plain
abbrev pub AreStraight : List Unit → Type 0
AreStraight [] = ⊤
AreStraight (unit ∷ []) = ⊤
AreStraight (unit ∷ units) = (is_plain unit ≡ true) × AreStraight units

-- the registers that are known once those are fetched that a piece needs: all but those that are in its bank alone
abbrev pub known_first : List Unit → ℕ → Bool
known_first piece r = not (keeps (bank_of piece) r) || is_needed piece r

-- ---- the law

-- no register is in a local variable, and each is known
abbrev pub HoldsAll : Workspace → State → Type 0
HoldsAll w s = HoldsOn 0 (λ r. true) w s

-- a branch or jump at an address says where the guest is; another unit leaves the operands alone
abbrev pub UnitGoal : Unit → Address → Workspace → Workspace → State → Type 0
UnitGoal (units.Branch i slot) at before after t = SaysGoal i at before after t.pc
UnitGoal (units.SlotMissing i) at before after t = SaysGoal i at before after t.pc
UnitGoal (units.SlotIsBranch i word) at before after t = SaysGoal i at before after t.pc
UnitGoal unit at before after t = after.operands ≡ before.operands

abbrev pub PieceGoal : List Unit → Address → Workspace → Workspace → State → Type 0
PieceGoal [] at before after t = after.operands ≡ before.operands
PieceGoal (unit ∷ []) at before after t = UnitGoal unit at before after t
PieceGoal (unit ∷ units) at before after t = PieceGoal units (at + 4) before after t

-- Where the code of a piece at an address has come to its end.
pub record PieceArrives (piece : List Unit) (at : Address) (before after : Workspace) (t : State)
    : Type 0 where
  pub held : HoldsAll after t
  pub goal : PieceGoal piece at before after t

-- The code of a piece of units follows all their turns, wherever it lies, from each workspace that holds the state: with at least as many turns as
-- the guest, and at most 256 for each of them.
abbrev pub PieceFollows : List Unit → Type 0
PieceFollows piece =
    (site : Site) (order : Order) (at : CodeOffset) (w : Workspace) (x : State)
    → IsReady site order
    → x.order ≡ order
    → x.pending ≡ None
    → x.pc + 4 * length piece < 2 ^ 32
    → LiesAt site.program site.method at (warm_code piece x.pc)
    → HoldsAll w x
    → Follows site at (at + size (warm_code piece x.pc)) (piece_turns piece x).0
    (256 * (piece_turns piece x).0) (whole_weight order (warm_code piece x.pc))
    (PieceArrives piece x.pc w) (stands site at w) (piece_turns piece x).1

-- every piece of lawful units is followed by its code
abbrev pub AllPiecesFollow : Type 0
AllPiecesFollow =
    (piece : List Unit)
    → piece ≢ []
    → All IsLawful piece
    → AreStraight piece
    → PieceFollows piece
