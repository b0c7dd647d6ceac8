-- A guest with a meter, beside classes that follow it.
use Rattle.std.specs.Prelude.{ℕ, false}
use Rattle.run_definition.specs.Turn.{Turn, End}
use Rattle.run_simulation_laws.specs.Turns.{Pair, Follows, LawOfTurn}
use Rattle.run_simulation_laws.specs.Meter.{metered}

-- the guest with a meter, beside the classes: nothing is counted, and no state is marked
abbrev pub metered_pair : {G J : Type 0} → (G → Turn G) → (J → Turn J) → (G → End)
    → Pair (ℕ × G) J ⊥
metered_pair guest classes spent = record {
  guest = metered guest spent;
  classes = classes;
  tally = λ i. absurd i;
  marked = λ s. false;
}

-- states that rest side by side, by what is on the meter
abbrev pub by_meter : {G J : Type 0} → (ℕ → G → J → Type 0) → ℕ × G → J → Type 0
by_meter Rests s j = Rests s.0 s.1 j

module _ {G J : Type 0} (guest : G → Turn G) (classes : J → Turn J) (spent : G → End)
    (Rests : ℕ → G → J → Type 0) where
  -- from so much on the meter and a state of the guest, the classes follow, in such limits
  abbrev pub FollowsByMeter : (ℕ → ℕ) → ℕ → G → J → Type 0
  FollowsByMeter limit left g j =
      Follows (metered_pair guest classes spent) (by_meter Rests) limit (left, g) j

  -- the law of a turn, with a meter
  abbrev pub LawByMeter : ℕ → Type 0
  LawByMeter most = LawOfTurn (metered_pair guest classes spent) (by_meter Rests) most
