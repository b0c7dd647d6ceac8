-- What a turn of a stage comes to, by the instructions that were executed.
use Rattle.std.specs.Prelude.{◌≡◌, ℕ, ◌==◌, nat_le, Bool, not, ◌||◌, if◌then◌else◌, Result, Ok, Err}
use Rattle.nv_events.specs.Parts.{is_going}
use Rattle.run_definition.specs.declared.io_fault.IoFault.{IoFault}
use Rattle.run_definition.specs.declared.io_fault.IoFault.TheVariants.{ReadFault, WriteFault}
use Rattle.run_definition.specs.declared.outcome.Outcome.{Outcome}
use Rattle.pipe_net.specs.declared.executed.Executed.{Executed}
use Rattle.pipe_net.specs.declared.executed.Stop.{Stop}
use Rattle.pipe_net.specs.declared.executed.Stop.TheVariants.{Most, NotReady, Ended}
use Rattle.pipe_net.specs.declared.net_fault.NetFault.{NetFault}
use Rattle.pipe_net.specs.declared.net_fault.NetFault.TheVariants.{Io, NoMemory}
use Rattle.pipe_net.specs.declared.outlet.Outlet.{Outlet}
use Rattle.pipe_net.specs.declared.outlet.Outlet.TheVariants as outlet
use Rattle.pipe_net.specs.declared.turn.Turn.{Turn}
use Rattle.pipe_net.specs.declared.turn.Turn.TheVariants.{Ran, Blocked}

-- it has ended, or executed as many instructions as it may
abbrev pub over_by : ℕ → Outcome → ℕ → Bool
over_by bound outcome count = not (is_going outcome) || nat_le bound count

abbrev pub turn_of : ℕ → Turn
turn_of n = if n == 0 then Blocked else Ran n

abbrev pub outcome_behind : Outcome → Stop → Outcome
outcome_behind before Most = before
outcome_behind before NotReady = before
outcome_behind before (Ended outcome) = outcome

-- Only the last stage writes to the sink. Where error output failed, there was no memory.
abbrev pub net_fault_of : IoFault → Outlet → ℕ → NetFault
net_fault_of ReadFault outlet faults = Io ReadFault
net_fault_of WriteFault outlet.Sink faults = if faults == 0 then Io WriteFault else NoMemory
net_fault_of WriteFault outlet.Pipe faults = NoMemory
net_fault_of WriteFault outlet.Nowhere faults = NoMemory

abbrev pub Settles : Outlet → Result Executed IoFault → Outcome → Outcome → ℕ
    → Result Turn NetFault → Type 0
Settles outlet (Ok executed) old new faults result =
    (new ≡ outcome_behind old executed.stop) × (result ≡ Ok (turn_of executed.count))
Settles outlet (Err fault) old new faults result =
    (new ≡ old) × (result ≡ Err (net_fault_of fault outlet faults))
