-- The turns of a unit as turns of the guest, and what they pay for.
use Rattle.std.proofs.Common.{◌≡◌, ℕ, ◌+◌, ◌≤◌, ◌==◌, ◌%◌, Bool, true, false, not, ◌||◌, if◌then◌else◌, inl, inr, ◌⊎◌, List, [], ◌∷◌, ◌++◌, Option, Some, None, refl, ap, sym, arith}
use Rattle.std.specs.Bool.{⊤}
use Rattle.std.proofs.Math.Bool.{cond}
use Rattle.std.proofs.lemmas.Bool.{true≢false, and_from}
use Rattle.run_definition.specs.Turn.{Turn, moves, ends, leaves, asks}
use Rattle.run_simulation_laws.specs.Trail.{if_moves, advanced}
use Rattle.run_simulation_laws.proofs.Passing.{moved_one}
use Rattle.mips_definition.specs.State.{State, register}
use Rattle.mips_definition.specs.Effect as effects
use Rattle.mips_definition.specs.Effect.{Effect}
use Rattle.mips_definition.specs.Table.{inst}
use Rattle.mips_definition.specs.Step.{turn, turn_by, executed, instruction_turn, effect, called, into_slot, past_slot, question_of, after_call, loader_question, after_loader}
use Rattle.delay_slots.specs.Turns.{UnitTurns, one_turn, two_turns, turn_count, last_turn, AreMade}
use Rattle.emit_paths_laws.specs.Guest.{Span, holds, in_one_span, crosses, crossings, goes_out, is_by, is_register_jump, instruction_at}
use Rattle.emit_spans_laws.specs.GuestCodeLaws.Steps.{unit_trail, GoesThroughSlot}
use Rattle.emit_program_laws.proofs.TurnLaws.Inner.{is_fault}
use Rattle.emit_program_laws.proofs.TurnLaws.Turning.{HasTurns, trail_to}

pub either : (b : Bool) → (b ≡ true) ⊎ (b ≡ false)
either true = inl refl
either false = inr refl

-- ---- how the guest's turns end

-- a turn moves, or it calls the system, or it ends the run in a fault
abbrev pub MovesOrOuter : Turn State → Type 0
MovesOrOuter (moves t) = ⊤
MovesOrOuter (ends e) = is_fault e ≡ true
MovesOrOuter (leaves q e) = ⊤
MovesOrOuter (asks q next) = ⊤

if-outer : (b : Bool) (x y : Turn State) → MovesOrOuter x → MovesOrOuter y → MovesOrOuter (if b then x else y)
if-outer true x y first second = first
if-outer false x y first second = second

branch-outer : (pending : Option ℕ) (x y : Turn State) → MovesOrOuter x → MovesOrOuter y → MovesOrOuter (elim pending [ None ↦ x | Some target ↦ y ])
branch-outer None x y first second = first
branch-outer (Some target) x y first second = second

called-outer : (s : State) → MovesOrOuter (called s)
called-outer s = if-outer (register s 2 == 1) _ (asks (question_of s) (after_call s)) tt tt

by-outer : (e : Effect) (word : ℕ) (s : State) → MovesOrOuter (turn_by e word s)
by-outer (effects.goes_on t) word s = tt
by-outer (effects.branches t target) word s = branch-outer s.pending (moves (into_slot t target)) _ tt refl
by-outer (effects.skips_slot t) word s = branch-outer s.pending (moves (past_slot t)) _ tt refl
by-outer (effects.faults kind value) word s = refl
by-outer effects.calls word s = called-outer s

fetched-outer : (s : State) (word : Option ℕ) → MovesOrOuter (executed s word)
fetched-outer s None = refl
fetched-outer s (Some word) = by-outer (effect (inst word) word s) word s

pub guest-outer : (s : State) → MovesOrOuter (turn s)
guest-outer s =
    if-outer s.begun (instruction_turn s) (asks (loader_question s) (after_loader s))
    (if-outer (s.pc % 4 == 0) (executed s (s.code s.pc)) _ (fetched-outer s (s.code s.pc)) refl) tt

-- ---- the turns of a unit

-- They are turns of the guest, and their trail is the guest's.
pub record UnitMade (marked : State → Bool) (x : State) (turns : UnitTurns) : Type 0 where
  pub made : HasTurns marked x (last_turn turns)
  pub count : made.earlier + 1 ≡ turn_count turns
  pub trail : (to : Option State) → trail_to made.earlier x made.before to ≡ unit_trail x turns to

not-true : (b : Bool) → (b ≡ true → ⊥) → b ≡ false
not-true true never = absurd (never refl)
not-true false never = refl

pub unit-made : (marked : State → Bool) → ((t : State) → marked t ≡ true → t.pending ≡ None) → (x : State) (turns : UnitTurns) → AreMade x turns → GoesThroughSlot x turns → UnitMade marked x turns
unit-made marked between x (one_turn last) is slot = record {
  made = record { earlier = 0; few = omega arith; before = x; comes = refl; last_is = is; hidden = λ some. absurd (omega (arith, some)) };
  count = refl;
  trail = λ to. refl;
}
unit-made marked between x (two_turns s last) is slot = record {
  made = record {
    earlier = 1;
    few = omega arith;
    before = s;
    comes = ap (λ t. if_moves t None (advanced turn 0)) is.0;
    last_is = is.1;
    hidden = λ some. not-true (marked s) (λ is_marked. slot.pending (between s is_marked));
  };
  count = refl;
  trail = λ to. ap (λ steps. steps ++ record { from = s; to = to } ∷ []) (moved_one turn x s is.0);
}

-- ---- crossings

or-right : (a b : Bool) → b ≡ true → (a || b) ≡ true
or-right true b is = refl
or-right false b is = is

-- a step between addresses that are not in one span crosses
out-crosses : (spans : List Span) (s t : State) → s.begun ≡ true → in_one_span spans s.pc t.pc ≡ false → crosses spans (record { from = s; to = Some t }) ≡ true
out-crosses spans s t begun apart =
    and_from s.begun (is_by is_register_jump (instruction_at s) || goes_out spans s.pc (Some t)) begun
    (or-right (is_by is_register_jump (instruction_at s)) (goes_out spans s.pc (Some t)) (ap not apart))

one-alone : (a : Bool) → a ≡ true → 1 ≤ 0 + cond a 1 0
one-alone true is = omega arith
one-alone false is = absurd (true≢false (sym is))

one-count : (a b : Bool) → (a ≡ true) ⊎ (b ≡ true) → 1 ≤ 0 + cond a 1 0 + cond b 1 0
one-count true true is = omega arith
one-count true false is = omega arith
one-count false true is = omega arith
one-count false false (inl is) = absurd (true≢false (sym is))
one-count false false (inr is) = absurd (true≢false (sym is))

-- A unit that leads from a span to outside of it crosses in one of its turns.
module _ (spans : List Span) (span : Span) (apart : (a b : ℕ) → holds span a ≡ true → holds span b ≡ false → in_one_span spans a b ≡ false) where
  pub unit-crosses : (x t : State) (turns : UnitTurns) → x.begun ≡ true → GoesThroughSlot x turns → holds span x.pc ≡ true → holds span t.pc ≡ false → 1 ≤ crossings spans (unit_trail x turns (Some t))
  unit-crosses x t (one_turn last) begun slot inside outside =
      one-alone (crosses spans (record { from = x; to = Some t })) (out-crosses spans x t begun (apart x.pc t.pc inside outside))
  unit-crosses x t (two_turns s last) begun slot inside outside = by_slot (either (holds span s.pc))
    where
      by_slot : (holds span s.pc ≡ true) ⊎ (holds span s.pc ≡ false) → 1 ≤ crossings spans (unit_trail x (two_turns s last) (Some t))
      by_slot (inl stays) = one-count (crosses spans (record { from = x; to = Some s })) (crosses spans (record { from = s; to = Some t })) (inr (out-crosses spans s t slot.begun (apart s.pc t.pc stays outside)))
      by_slot (inr goes) = one-count (crosses spans (record { from = x; to = Some s })) (crosses spans (record { from = s; to = Some t })) (inl (out-crosses spans x s begun (apart x.pc s.pc inside goes)))
