-- What holds of the runs of a guest with a meter and of classes that follow it.
use Rattle.std.specs.Prelude.{◌≡◌, ℕ, ◌+◌, ◌*◌, ◌<◌, ◌≤◌, Option, Some}
use Rattle.run_definition.specs.Question.{Question}
use Rattle.run_definition.specs.Answer.{Answer}
use Rattle.run_definition.specs.Turn.{Turn, End, ends}
use Rattle.run_definition.specs.Run.{run_of}
use Rattle.run_simulation_laws.specs.Trail.{advanced}
use Rattle.run_simulation_laws.specs.Turns.{Pair, Follows}
use Rattle.run_simulation_laws.specs.Runs.{SameRuns}
use Rattle.run_simulation_laws.specs.Meter.{metered, IsMetered}
use Rattle.run_simulation_laws.specs.Pairs.{FollowsByMeter, LawByMeter}

-- ---- turns

-- How classes follow a guest with a meter, by what its turns come to. `Rests` goes by what is then on the meter.
pub record MetersArePaid {G J I : Type 0} (p : Pair G J I) (spent : G → End)
    (Rests : ℕ → G → J → Type 0) : Type 0 where
  -- enough was on it: the classes follow these turns of the guest, and rest where they are taken off
  pub enough : (limit : ℕ → ℕ) (left : ℕ) (g : G) (j : J) (f : Follows p (Rests left) limit g j)
      → FollowsByMeter p.guest p.classes spent Rests limit (f.guest_turns + 1 + left) g j
  -- too few were on it: after as many turns the classes end as a spent meter does
  pub too_few : (limit : ℕ → ℕ) (left n : ℕ) (g h : G) (j l : J)
      → advanced p.guest left g ≡ Some h
      → advanced p.classes n j ≡ Some l
      → p.classes l ≡ ends (spent h)
      → left ≤ n
      → n + 1 ≤ limit (left + 1)
      → FollowsByMeter p.guest p.classes spent Rests limit left g j
  -- the classes may first make turns that no turn of the guest belongs to
  pub before : (limit wider : ℕ → ℕ) (n left : ℕ) (g : G) (j l : J)
      → advanced p.classes n j ≡ Some l
      → FollowsByMeter p.guest p.classes spent Rests limit left g l
      → ((x : ℕ) → n + limit x ≤ wider x)
      → FollowsByMeter p.guest p.classes spent Rests wider left g j

-- ---- runs

-- Classes with a meter that follow a guest from the first turn on, within a limit for the start; and so
-- much was put on the meter.
pub record MeteredFromStart (G J : Type 0) (Rests : ℕ → G → J → Type 0) : Type 0 where
  pub guest : G → Turn G
  pub classes : J → Turn J
  pub spent : G → End
  pub most : ℕ
  pub start : ℕ
  pub left : ℕ
  pub guest_at : G
  pub classes_at : J
  pub turns : LawByMeter guest classes spent Rests most
  pub begins : FollowsByMeter guest classes spent Rests (λ k. start + 2 * most) left guest_at
      classes_at

-- Over a kind of system state: the classes' run of enough turns beside the guest's of so many as were on the meter.
abbrev pub RunsToItsMeter : {G J K : Type 0} {Rests : ℕ → G → J → Type 0}
    → MeteredFromStart G J Rests → (K → Question → Option (Answer × K)) → Type 0
RunsToItsMeter {G} {J} {K} f reply =
    (m : ℕ) (k : K)
    → f.most * (f.left + 2) + f.start ≤ m
    → IsMetered f.spent (run_of f.guest reply f.left f.guest_at k)
    (run_of f.classes reply m f.classes_at k)

-- A guest with a meter, and classes that run the same as it, over a kind of system state.
pub record MeteredOverSystem {G K : Type 0} (J : Type 0) (turn : G → Turn G) (spent : G → End)
    (reply : K → Question → Option (Answer × K)) : Type 0 where
  -- the guest runs as it does without the meter for so many turns, and then ends so
  pub guest : (n m : ℕ) (g : G) (k : K)
      → n < m
      → IsMetered spent (run_of turn reply n g k) (run_of (metered turn spent) reply m (n, g) k)
  -- the classes, within an allowance for one turn more, have exactly these questions and this end
  pub classes : (classes : J → Turn J) (allowed : ℕ → ℕ) (n m : ℕ) (g : G) (j : J) (k : K)
      → SameRuns (metered turn spent) classes reply allowed (n, g) j k
      → allowed (n + 1) ≤ m
      → IsMetered spent (run_of turn reply n g k) (run_of classes reply m j k)
