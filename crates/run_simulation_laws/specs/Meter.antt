-- A guest with a meter: it makes so many turns, and then ends so.
use Rattle.std.specs.Prelude.{◌≡◌, ◌≢◌, ℕ, zero, suc}
use Rattle.run_definition.specs.Turn.{Turn, moves, ends, leaves, asks, End, outcome_of}
use Rattle.run_definition.specs.Run.{Run}
use Rattle.run_definition.specs.declared.outcome.Outcome.TheVariants.{Going}

-- a turn that leads to a state with so much on its meter
abbrev pub with_meter : {S : Type 0} → ℕ → Turn S → Turn (ℕ × S)
with_meter left (moves t) = moves (left, t)
with_meter left (ends e) = ends e
with_meter left (leaves q e) = leaves q e
with_meter left (asks q next) = asks q (λ a. (left, next a))

abbrev pub metered_by : {S : Type 0} → (S → Turn S) → (S → End) → ℕ → S → Turn (ℕ × S)
metered_by turn spent zero s = ends (spent s)
metered_by turn spent (suc left) s = with_meter left (turn s)

abbrev pub metered : {S : Type 0} → (S → Turn S) → (S → End) → ℕ × S → Turn (ℕ × S)
metered turn spent s = metered_by turn spent s.0 s.1

-- A run that a meter bounds, beside the guest's run of so many turns: the same questions, the same end where the guest has one, and
-- otherwise the meter's end at the guest's last state.
pub record IsMetered {S T K : Type 0} (spent : S → End) (run : Run S K) (by_meter : Run T K)
    : Type 0 where
  pub questions : by_meter.questions ≡ run.questions
  pub system : by_meter.system ≡ run.system
  pub goes : run.outcome ≡ Going → by_meter.outcome ≡ outcome_of (spent run.last)
  pub over : run.outcome ≢ Going → by_meter.outcome ≡ run.outcome
