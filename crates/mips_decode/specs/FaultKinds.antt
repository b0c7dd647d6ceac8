-- Of which kinds the faults of the guest machine are.
use Rattle.std.specs.Prelude.{◌≡◌, ℕ, ◌≤◌, Option}
use Rattle.run_definition.specs.Question.{Question}
use Rattle.run_definition.specs.Answer.{Answer}
use Rattle.run_definition.specs.Turn.{ends, «fault»}
use Rattle.run_definition.specs.Run.{run_of}
use Rattle.run_definition.specs.declared.fault.Fault.{Fault}
use Rattle.run_definition.specs.declared.outcome.Outcome.TheVariants.{Faulted}
use Rattle.mips_definition.specs.State.{State}
use Rattle.mips_definition.specs.Step.{turn}
use Rattle.mips_definition.specs.Effect.{fetch_fault, trap_fault}

-- the eleven kinds, from a fetch to a trap
abbrev pub IsGuestKind : ℕ → Type 0
IsGuestKind kind = (fetch_fault ≤ kind) × (kind ≤ trap_fault)

-- a turn that ends in a fault ends in one of them
abbrev pub TurnsFaultSo : Type 0
TurnsFaultSo = (s : State) (f : Fault) → turn s ≡ ends («fault» f) → IsGuestKind f.kind

-- so does a run, over a kind of system state
abbrev pub RunsFaultSo : {K : Type 0} → (K → Question → Option (Answer × K)) → Type 0
RunsFaultSo {K} reply =
    (n : ℕ) (s : State) (k : K) (f : Fault)
    → (run_of turn reply n s k).outcome ≡ Faulted f
    → IsGuestKind f.kind
