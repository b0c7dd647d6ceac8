-- What the machine of a stage does in a turn of the stage, over its ports.
use Rattle.std.specs.Prelude.{◌≡◌, ◌≢◌, ◌≤◌, ◌<◌, ℕ, zero, suc, Bool, false, Option, Some, None, Result, Ok, Err}
use Rattle.run_definition.specs.Answer.{Answer}
use Rattle.run_definition.specs.Question.{Question}
use Rattle.nv_events.specs.Serving.{Turns}
use Rattle.run_definition.specs.Turn.{asks}
use Rattle.run_definition.specs.declared.io_fault.IoFault.{IoFault}
use Rattle.run_definition.specs.declared.outcome.Outcome.{Outcome}
use Rattle.run_definition.specs.declared.outcome.Outcome.TheVariants.{Waiting}
use Rattle.jvm_definition.specs.Step.{Loaded, loaded_turn}
use Rattle.pipe_net.specs.Ports.{FallsThrough, GoesThrough, Ports, Waits, ready_for}
use Rattle.pipe_net.specs.declared.executed.Executed.{Executed}
use Rattle.pipe_net.specs.declared.executed.Stop.{Stop}
use Rattle.pipe_net.specs.declared.executed.Stop.TheVariants.{Most, NotReady, Ended}

-- a machine in its state, and its ports
pub record Scene : Type 0 where
  pub state : Loaded
  pub ports : Ports

abbrev pub Falls : Ports → Question → Ports → Type 0
Falls p q r = (fault : IoFault) × FallsThrough p q r fault

-- an instruction
abbrev pub TurnsTo : Scene → Scene → Result (Option Outcome) IoFault → Type 0
TurnsTo x y result = Turns GoesThrough Waits Falls (loaded_turn x.state) x.state y.state x.ports
    y.ports result

-- so many instructions, behind each of which the program goes on
abbrev pub Walks : ℕ → Scene → Scene → Type 0
Walks zero x y = y ≡ x
Walks (suc n) x y = (mid : Scene) × Walks n x mid × TurnsTo mid y (Ok None)

-- the next instruction is a call that is not ready
abbrev pub StandsBefore : Scene → Type 0
StandsBefore x = (q : Question) × (next : Answer → Loaded) × (loaded_turn x.state ≡ asks q next)
    × (ready_for x.ports q ≡ false)

-- an instruction is a call that is ready, and fails
abbrev pub Fails : Scene → Scene → IoFault → Type 0
Fails x y fault = (q : Question) × (next : Answer → Loaded) × (loaded_turn x.state ≡ asks q next)
    × FallsThrough x.ports q y.ports fault

-- an instruction ends the program
abbrev pub EndsSo : Scene → Scene → Outcome → Type 0
EndsSo x y outcome = TurnsTo x y (Ok (Some outcome)) × (outcome ≢ Waiting)

abbrev pub Stops : ℕ → Scene → Scene → ℕ → Stop → Type 0
Stops most x y n Most = (n ≡ most) × Walks n x y
Stops most x y n NotReady = (n < most) × Walks n x y × StandsBefore y
Stops most x y n (Ended outcome) = (k : ℕ) × (n ≡ suc k) × (n ≤ most) × (mid : Scene)
    × Walks k x mid × EndsSo mid y outcome

-- Of so many instructions at most, those were executed that come before an end, before a call that is not ready, or before one that failed.
abbrev pub Executes : ℕ → Scene → Scene → Result Executed IoFault → Type 0
Executes most x y (Ok executed) = Stops most x y executed.count executed.stop
Executes most x y (Err fault) = (n : ℕ) × (n < most) × (mid : Scene) × Walks n x mid
    × Fails mid y fault

-- whether the program has ended
abbrev pub GoesOnBehind : Stop → Bool → Type 0
GoesOnBehind Most ended = ended ≡ false
GoesOnBehind NotReady ended = ended ≡ false
GoesOnBehind (Ended outcome) ended = Unit {0}
