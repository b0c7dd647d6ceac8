-- Units of known words, and what they do.
use Rattle.std.proofs.Common.{◌≡◌, ℕ, zero, suc, ◌+◌, ◌*◌, ◌/◌, ◌-◌, ◌%◌, ◌^◌, ◌<◌, true, false, ◌==◌, nat_lt, if◌then◌else◌, List, [], ◌∷◌, Option, Some, None, pos, refl, arith, lit<}
use Rattle.std.specs.List.{slice_get, slice_index}
use Rattle.run_definition.specs.Turn.{Turn, moves, ends, leaves, asks, outcome_of}
use Rattle.run_definition.specs.Memory.{Memory}
use Rattle.run_definition.specs.declared.outcome.Outcome.{Outcome}
use Rattle.run_definition.specs.declared.outcome.Outcome.TheVariants.{Faulted, Going}
use Rattle.run_definition.specs.declared.order.Order.TheVariants.{Big}
use Rattle.mips_definition.specs.Table.{inst}
use Rattle.mips_definition.specs.State.{State, register, start}
use Rattle.delay_slots.specs.declared.unit.Unit.{Unit}
use Rattle.delay_slots.specs.declared.unit.Unit.TheVariants.{Plain, Branch, Call}
use Rattle.delay_slots.specs.Units.{units_of}
use Rattle.delay_slots.specs.Turns.{UnitTurns, one_turn, unit_turns, last_turn, StandsAt}

empty : Memory
empty = record { byte = λ a. None; writable = λ a. false }

-- the words of one range at 00400000, and a state that stands at word i of it
code_of : List ℕ → ℕ → Option ℕ
code_of words a = if nat_lt a 0x00400000 then None else if a % 4 == 0 then slice_get words ((a - 0x00400000) / 4) else None

at : List ℕ → ℕ → State
at words i = record (start Big 0x00400000 empty (code_of words) 0 0) { begun = true; pc = 0x00400000 + 4 * i }

unit_at : List ℕ → ℕ → Unit
unit_at words i = elim (slice_get (units_of words) i) [ None ↦ Call | Some unit ↦ unit ]

-- what the unit of word i does from there
does : List ℕ → ℕ → UnitTurns
does words i = unit_turns (unit_at words i) (at words i)

ending : Turn State → Outcome
ending (moves t) = Going
ending (ends e) = outcome_of e
ending (leaves q e) = outcome_of e
ending (asks q next) = Going

-- where a turn moves on to
goes_to : Turn State → ℕ
goes_to (moves t) = t.pc
goes_to (ends e) = 0
goes_to (leaves q e) = 0
goes_to (asks q next) = (next (record { value = pos 9; patch = [] })).pc

value_in : ℕ → Turn State → ℕ
value_in r (moves t) = register t r
value_in r (ends e) = 0
value_in r (leaves q e) = 0
value_in r (asks q next) = register (next (record { value = pos 9; patch = [] })) r

units_of_a_program : units_of (0x24840001 ∷ 0x10000001 ∷ 0x24840001 ∷ 0x24020001 ∷ 0x0000000C ∷ []) ≡ Plain (inst 0x24840001) ∷ Branch (inst 0x10000001) (inst 0x24840001) ∷ Plain (inst 0x24840001) ∷ Plain (inst 0x24020001) ∷ Call ∷ []
unfolding inst
units_of_a_program = refl

-- b 00400008 without a slot
slot_is_missing : ending (last_turn (does (0x10000001 ∷ []) 0)) ≡ Faulted (record { kind = 1; pc = 0x00400004; value = 0x00400004 })
unfolding inst ending does unit_at at code_of empty
slot_is_missing = refl

branch_in_slot : ending (last_turn (does (0x10000001 ∷ 0x10000001 ∷ []) 0)) ≡ Faulted (record { kind = 10; pc = 0x00400004; value = 0x10000001 })
unfolding inst ending does unit_at at code_of empty
branch_in_slot = refl

-- break 7 in a slot faults at the slot
break_in_slot : ending (last_turn (does (0x10000001 ∷ 0x000001CD ∷ []) 0)) ≡ Faulted (record { kind = 8; pc = 0x00400004; value = 7 })
unfolding inst ending does unit_at at code_of empty
break_in_slot = refl

reserved_alone : ending (last_turn (does (0xFC000000 ∷ []) 0)) ≡ Faulted (record { kind = 9; pc = 0x00400000; value = 0xFC000000 })
unfolding inst ending does unit_at at code_of empty
reserved_alone = refl

-- b 00400010 with a call in its slot, which is answered 9
call_in_slot_goes_on : goes_to (last_turn (does (0x10000003 ∷ 0x0000000C ∷ []) 0)) ≡ 0x00400010
unfolding inst goes_to does unit_at at code_of empty
call_in_slot_goes_on = refl

call_in_slot_is_answered : value_in 2 (last_turn (does (0x10000003 ∷ 0x0000000C ∷ []) 0)) ≡ 9
unfolding inst value_in does unit_at at code_of empty
call_in_slot_is_answered = refl

-- jal 00400010 with addiu $4,$31,1 in its slot reads the link
slot_reads_the_link : value_in 4 (last_turn (does (0x0C100004 ∷ 0x27E40001 ∷ []) 0)) ≡ 0x00400009
unfolding inst value_in does unit_at at code_of empty
slot_reads_the_link = refl

-- bnel $0,$0,00400008 and beql $0,$0,00400010: one turn past the slot, and two turns
skipped_slot : does (0x54000001 ∷ 0x24840001 ∷ []) 0 ≡ one_turn (moves (record (at (0x54000001 ∷ 0x24840001 ∷ []) 0) { pc = 0x00400008 }))
unfolding inst does unit_at at code_of empty
skipped_slot = refl

likely_and_taken : goes_to (last_turn (does (0x50000003 ∷ 0x24840001 ∷ []) 0)) ≡ 0x00400010
unfolding inst goes_to does unit_at at code_of empty
likely_and_taken = refl

-- teq $0,$0 in the slot of a branch faults there with its word
trap_in_slot : ending (last_turn (does (0x10000001 ∷ 0x00000034 ∷ []) 0)) ≡ Faulted (record { kind = 11; pc = 0x00400004; value = 0x00000034 })
unfolding inst ending does unit_at at code_of empty
trap_in_slot = refl

below_two : (P : ℕ → Type 0) → P 0 → P 1 → (k : ℕ) → k < 2 → P k
below_two P p q zero h = p
below_two P p q (suc zero) h = q
below_two P p q (suc (suc k)) h = absurd (omega arith)

-- a state that stands at a word of a range
stands_there : StandsAt (at (0x10000003 ∷ 0x0000000C ∷ []) 1) 0x00400000 (0x10000003 ∷ 0x0000000C ∷ []) 1
unfolding at code_of empty
stands_there = record {
  begun = refl;
  pending = refl;
  pc = refl;
  in_range = lit< tt;
  range = record {
    aligned = refl;
    below_end = lit< tt;
    are_words = below_two (λ k. slice_index (0x10000003 ∷ 0x0000000C ∷ []) k < 2 ^ 32) (lit< tt) (lit< tt);
    there = below_two (λ k. code_of (0x10000003 ∷ 0x0000000C ∷ []) (0x00400000 + 4 * k) ≡ slice_get (0x10000003 ∷ 0x0000000C ∷ []) k) refl refl;
    ends = refl;
  };
}
