-- A run from a state that makes a unit's turns.
use Rattle.std.proofs.Common.{◌≡◌, ℕ, ◌+◌, Option, ap, ◌∙◌, arith}
use Rattle.run_definition.specs.Question.{Question}
use Rattle.run_definition.specs.Answer.{Answer}
use Rattle.run_definition.specs.Turn.{Turn, moves}
use Rattle.run_definition.specs.Run.{run_of}
use Rattle.nv_events.specs.Parts.{then_run}
use Rattle.nv_events.proofs.RunLaws.{run_of-add}
use Rattle.mips_definition.specs.State.{State}
use Rattle.mips_definition.specs.Step.{turn}
use Rattle.delay_slots.specs.Turns.{UnitTurns, one_turn, two_turns, turn_count, unit_run, AreMade}

module _ {K : Type 0} (reply : K → Question → Option (Answer × K)) where
  runs_by : (x : State) (last : Turn State) → turn x ≡ last → (n : ℕ) (k : K) → run_of turn reply (1 + n) x k ≡ then_run (run_of (λ s. last) reply 1 x k) (run_of turn reply n)
  runs_by x last made n k =
      run_of-add turn reply 1 n x k
      ∙ ap (λ (y : Turn State). then_run (run_of (λ s. y) reply 1 x k) (run_of turn reply n)) made

  pub runs_made : (x : State) (turns : UnitTurns) → AreMade x turns → (n : ℕ) (k : K) → run_of turn reply (turn_count turns + n) x k ≡ then_run (unit_run reply turns x k) (run_of turn reply n)
  runs_made x (one_turn last) made n k = runs_by x last made n k
  runs_made x (two_turns slot last) made n k =
      let e : 2 + n ≡ 1 + (1 + n) = omega arith in
      ap (λ i. run_of turn reply i x k) e
      ∙ runs_by x (moves slot) made.0 (1 + n) k
      ∙ runs_by slot last made.1 n k
