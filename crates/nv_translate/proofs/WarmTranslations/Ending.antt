-- The last turn of units ends the guest's run, where it ends it, in a fault.
use Rattle.std.proofs.Common.{ℕ, ◌==◌, Bool, true, false, if◌then◌else◌, List, [], ◌∷◌, Option, Some, None}
use Rattle.run_definition.specs.Turn.{Turn, moves, ends, leaves, asks}
use Rattle.mips_definition.specs.State.{State, register}
use Rattle.mips_definition.specs.Effect.{Effect, goes_on, branches, skips_slot, faults, calls, fetch_fault, branch_in_slot_fault}
use Rattle.mips_decode.specs.Encoding.{word_of}
use Rattle.mips_definition.specs.Step.{effect, faulted, called}
use Rattle.mips_definition.specs.declared.inst.Inst.{Inst}
use Rattle.delay_slots.specs.declared.unit.Unit.{Unit}
use Rattle.delay_slots.specs.declared.unit.Unit.TheVariants.{Plain, Branch, SlotMissing, SlotIsBranch, Call, Trap}
use Rattle.delay_slots.specs.Turns.{one_turn, two_turns, done, done_by, last_turn, then_slot, turn_count, unit_turns}
use Rattle.emit_program_laws.specs.SpanCodeLaws.Pieces.{piece_turns, then_turns}
use Rattle.nv_translate.proofs.WarmTranslations.Alone.{EndsPlainly}

either : (b : Bool) (x y : Turn State) → EndsPlainly x → EndsPlainly y → EndsPlainly (if b then x else y)
either true x y first second = first
either false x y first second = second

called-plain : (s : State) → EndsPlainly (called s)
called-plain s = either (register s 2 == 1) (leaves _ _) (asks _ _) tt tt

effect-plain : (e : Effect) (s : State) → EndsPlainly (done_by e s)
effect-plain (goes_on t) s = tt
effect-plain (branches t target) s = tt
effect-plain (skips_slot t) s = tt
effect-plain (faults kind value) s = tt
effect-plain calls s = called-plain s

done-plain : (i : Inst) (s : State) → EndsPlainly (done i s)
done-plain i s = effect-plain (effect i (word_of i) s) s

slot-plain : (last : Turn State) (second : State → Turn State) → EndsPlainly last → ((s : State) → EndsPlainly (second s))
    → EndsPlainly (last_turn (then_slot last second))
slot-plain (moves t) second plain each = by-pending t.pending
  where
    by-pending : (o : Option ℕ) → EndsPlainly (last_turn (elim o [ None ↦ one_turn (moves t) | Some target ↦ two_turns t (second t) ]))
    by-pending None = tt
    by-pending (Some target) = each t
slot-plain (ends e) second plain each = plain
slot-plain (leaves q e) second plain each = tt
slot-plain (asks q next) second plain each = tt

unit-plain : (unit : Unit) (x : State) → EndsPlainly (last_turn (unit_turns unit x))
unit-plain (Plain i) x = done-plain i x
unit-plain (Branch i slot) x = slot-plain (done i x) (done slot) (done-plain i x) (done-plain slot)
unit-plain (SlotMissing i) x = slot-plain (done i x) (λ s. faulted s fetch_fault s.pc) (done-plain i x) (λ s. tt)
unit-plain (SlotIsBranch i word) x = slot-plain (done i x) (λ s. faulted s branch_in_slot_fault word) (done-plain i x) (λ s. tt)
unit-plain Call x = called-plain x
unit-plain (Trap kind value) x = tt

then-plain : (n : ℕ) (last : Turn State) (rest : State → ℕ × Turn State) → EndsPlainly last → ((t : State) → EndsPlainly (rest t).1)
    → EndsPlainly (then_turns n last rest).1
then-plain n (moves t) rest plain each = each t
then-plain n (ends e) rest plain each = plain
then-plain n (leaves q e) rest plain each = tt
then-plain n (asks q next) rest plain each = tt

pub piece-plain : (units : List Unit) (x : State) → EndsPlainly (piece_turns units x).1
piece-plain [] x = tt
piece-plain (unit ∷ units) x =
    then-plain (turn_count (unit_turns unit x)) (last_turn (unit_turns unit x)) (piece_turns units) (unit-plain unit x) (piece-plain units)
