-- The fault of a server of joined parts, which fails at most one call.
use Rattle.std.specs.Prelude.{Option, Some, None, Result, Ok, Err}
use Rattle.nv_events.specs.Serving.{Counts, none_counted}
use Rattle.run_definition.specs.declared.io_fault.IoFault.{IoFault}
use Rattle.run_definition.specs.declared.io_fault.IoFault.TheVariants.{ReadFault, WriteFault}

-- the fault of a call that failed
abbrev pub fault_of : {A : Type 0} → Result A IoFault → Option IoFault
fault_of (Ok a) = None
fault_of (Err fault) = Some fault

-- The calls that failed of a server that fails at most one, counted by their kind.
abbrev pub failed_calls : Option IoFault → Counts
failed_calls None = none_counted
failed_calls (Some ReadFault) = record { input = 1; output = 0; error = 0 }
failed_calls (Some WriteFault) = record { input = 0; output = 1; error = 0 }
