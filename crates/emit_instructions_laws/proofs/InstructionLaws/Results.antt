-- Code whose result goes to a register, and code that faults.
use Rattle.std.proofs.Common.{◌≡◌, ℕ, ◌+◌, ◌<◌, ◌≤◌, Bool, List, [], ◌∷◌, refl, arith}
use Rattle.run_definition.specs.Words.{IsWord}
use Rattle.run_definition.specs.declared.order.Order.{Order}
use Rattle.run_definition.specs.Turn.{Turn, moves, ends, «fault»}
use Rattle.run_definition.specs.declared.fault.Fault.{Fault}
use Rattle.mips_definition.specs.State.{State, with_register}
use Rattle.mips_definition.specs.Step.{advanced}
use Rattle.block_builder.specs.Registers.{Register, general}
use Rattle.jvm_definition.specs.declared.value.Value.TheVariants.{Int as int}
use Rattle.jvm_definition.specs.Effect.{Workspace, faults}
use Rattle.emit_steps.specs.declared.step.Step.{Step}
use Rattle.emit_steps.specs.Widths.{size}
use Rattle.emit_steps.specs.Outcomes.{outcome, ended, stopped}
use Rattle.emit_steps.specs.Placing.{LiesAt}
use Rattle.emit_simulation_laws.specs.Holding.{HoldsOn, with_value}
use Rattle.emit_simulation_laws.proofs.RegisterLaws.Writing.{register-held, register-kept, register-goal-kept}
use Rattle.emit_simulation_laws.specs.Sites.{Site, stands, whole_weight}
use Rattle.emit_simulation_laws.specs.Following.{Follows, LastTurn}
use Rattle.emit_simulation_laws.specs.Behind.{IsDone}
use Rattle.emit_simulation_laws.proofs.GuestFollows.CodeLaws.{CodeLaws}
use Rattle.emit_instructions_laws.specs.Instructions.{most_turns}

-- code follows a turn of the guest from a workspace, and then registers have been written
abbrev pub CodeFollows : Site → Order → ℕ → (ℕ → Bool) → ℕ → Workspace → List Register → List Step → Turn State → Type 0
CodeFollows site order bank known at w written code last =
    Follows site at (at + size code) 1 most_turns (whole_weight order code) (IsDone bank known written w) (stands site at w) last

module _ (laws : CodeLaws) (site : Site) (order : Order) (bank : ℕ) (known : ℕ → Bool) (at : ℕ) (w : Workspace) (s : State) (h : HoldsOn bank known w s) where
  pub result-follows : (d v n : ℕ) (code : List Step) → LiesAt site.program site.method at code → d < 32 → IsWord v → outcome site.program site.words code w ≡ ended n (with_value bank d (int v) w w.operands) → 1 ≤ n → n ≤ most_turns → CodeFollows site order bank known at w (general d ∷ []) code (moves (advanced (with_register s d v)))
  result-follows d v n code lies below word is some few =
      laws.end_follows site order at 1 most_turns n code w (with_value bank d (int v) w w.operands) (λ u. IsDone bank known (general d ∷ []) w u (advanced (with_register s d v))) lies is some few
      (record {
        state = record { held = register-held bank d v known w s w.operands below word h; kept = register-kept bank d v w };
        goal = register-goal-kept bank d v w w.operands below;
      })

  pub fault-follows : (written : List Register) (ending : Fault) (n i : ℕ) (v : Workspace) (code : List Step) → LiesAt site.program site.method at code → outcome site.program site.words code w ≡ stopped n i v (faults ending) → n + 1 ≤ most_turns → CodeFollows site order bank known at w written code (ends («fault» ending))
  fault-follows written ending n i v code lies is few =
      laws.fault_follows site order at 1 most_turns n i code w v ending (LastTurn site (at + size code) most_turns (whole_weight order code) (IsDone bank known written w) (ends («fault» ending))) lies is (omega arith) few (λ place. refl)
