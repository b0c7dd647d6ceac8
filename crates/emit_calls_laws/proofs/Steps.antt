-- The law of calls, by the last turn of a unit.
use Rattle.std.proofs.Common.{◌≡◌, ℕ, ◌+◌, true, Some, None, inl, inr, ◌⊎◌, refl, ap, ◌∙◌, arith}
use Rattle.run_definition.specs.Turn.{Turn, moves, ends, leaves, asks, End}
use Rattle.run_simulation_laws.specs.Trail.{advanced, if_moves}
use Rattle.run_simulation_laws.proofs.Passing.{advanced_add}
use Rattle.mips_definition.specs.State.{State}
use Rattle.mips_definition.specs.Step.{turn}
use Rattle.delay_slots.specs.Turns.{AreMade, UnitTurns, last_turn, one_turn, two_turns}
use Rattle.emit_calls_laws.specs.Calls.{BothCall, BothMove, ComesToCall, GuestEnds, makes_call}
use Rattle.emit_calls_laws.specs.Units.{last_state}
use Rattle.emit_calls_laws.proofs.Calling.{RestsLater}

-- ---- what comes first

abbrev pub ComesFirst : {G J : Type 0} → (G → Turn G) → (J → Turn J) → (G → J → Type 0) → (G → J → Type 0) → G → J → Type 0
ComesFirst guest classes Rests At g j = BothMove guest classes Rests g j ⊎ (BothCall guest classes At g j ⊎ GuestEnds guest g)

module _ {G J : Type 0} (guest : G → Turn G) (classes : J → Turn J) (Rests At : G → J → Type 0) where
  -- turns of the classes alone may come before
  pub comes-later : (n : ℕ) (g : G) (j l : J) → advanced classes n j ≡ Some l → ComesFirst guest classes Rests At g l → ComesFirst guest classes Rests At g j
  comes-later n g j l comes (inl b) = inl (record {
    guest_turns = b.guest_turns;
    some = b.some;
    guest_to = b.guest_to;
    guest_comes = b.guest_comes;
    class_turns = n + b.class_turns;
    class_to = b.class_to;
    class_comes = advanced_add classes n b.class_turns j l comes ∙ b.class_comes;
    rests = b.rests;
  })
  comes-later n g j l comes (inr (inl b)) =
      let c = b.class_comes in
      inr (inl (record {
        guest_turns = b.guest_turns;
        guest_at = b.guest_at;
        guest_comes = b.guest_comes;
        guest_calls = b.guest_calls;
        class_comes = record {
          turns = n + c.turns;
          at = c.at;
          comes = advanced_add classes n c.turns j l comes ∙ c.comes;
          calls = c.calls;
          held = c.held;
        };
      }))
  comes-later n g j l comes (inr (inr e)) = inr (inr e)

  -- the guest comes by turns that only move to a last one
  module _ (g before : G) (j : J) (earlier : ℕ) (comes : advanced guest earlier g ≡ Some before) where
    one-more : (t : G) → guest before ≡ moves t → advanced guest (earlier + 1) g ≡ Some t
    one-more t is = advanced_add guest earlier 1 g before comes ∙ ap (λ x. if_moves x None (advanced guest 0)) is

    -- it moves on to where the classes rest, too
    pub moving-first : (t : G) → guest before ≡ moves t → RestsLater classes Rests t j → ComesFirst guest classes Rests At g j
    moving-first t is r = inl (record {
      guest_turns = earlier + 1;
      some = omega arith;
      guest_to = t;
      guest_comes = one-more t is;
      class_turns = r.more;
      class_to = r.rest;
      class_comes = r.comes;
      rests = r.rests;
    })

    -- it calls the system, and so do the classes
    pub calling-first : makes_call (guest before) ≡ true → ComesToCall classes (At before) j → ComesFirst guest classes Rests At g j
    calling-first is c = inr (inl (record { guest_turns = earlier; guest_at = before; guest_comes = comes; guest_calls = is; class_comes = c }))

    -- it ends
    pub ending-first : (e : End) → guest before ≡ ends e → ComesFirst guest classes Rests At g j
    ending-first e is = inr (inr (record { turns = earlier; at = before; comes = comes; ending = e; ends_so = is }))

    pub by-last-turn : (last : Turn G) → guest before ≡ last → (makes_call last ≡ true → ComesToCall classes (At before) j) → ((t : G) → last ≡ moves t → RestsLater classes Rests t j) → ComesFirst guest classes Rests At g j
    by-last-turn (moves t) is calling moving = moving-first t is (moving t refl)
    by-last-turn (ends e) is calling moving = ending-first e is
    by-last-turn (leaves q e) is calling moving = calling-first (ap makes_call is) (calling refl)
    by-last-turn (asks q next) is calling moving = calling-first (ap makes_call is) (calling refl)

-- ---- a unit's turns are the guest's

pub record GuestMakes (x : State) (turns : UnitTurns) : Type 0 where
  pub earlier : ℕ
  pub comes : advanced turn earlier x ≡ Some (last_state x turns)
  pub last_is : turn (last_state x turns) ≡ last_turn turns

pub guest-makes : (x : State) (turns : UnitTurns) → AreMade x turns → GuestMakes x turns
guest-makes x (one_turn last) is = record { earlier = 0; comes = refl; last_is = is }
guest-makes x (two_turns s last) is = record { earlier = 1; comes = ap (λ t. if_moves t None (advanced turn 0)) is.0; last_is = is.1 }
