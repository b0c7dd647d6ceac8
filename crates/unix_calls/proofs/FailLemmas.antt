-- What the counts of a server that fails at most one call say of its fault.
use Rattle.std.proofs.Common.{◌≡◌, ◌⊎◌, inl, inr, Some, Err, refl, arith}
use Rattle.run_definition.specs.declared.io_fault.IoFault.{IoFault}
use Rattle.run_definition.specs.declared.io_fault.IoFault.TheVariants.{ReadFault, WriteFault}
use Rattle.run_definition.specs.declared.outcome.Outcome.{Outcome}
use Rattle.nv_events.specs.Serving.{Causes, Rose, none_counted}
use Rattle.unix_calls.specs.Failing.{failed_calls}

none-rose : Rose 0 0 → ⊥
none-rose h = absurd (grind (arith, h))

none-either : Rose 0 0 ⊎ Rose 0 0 → ⊥
none-either (inl h) = none-rose h
none-either (inr h) = none-rose h

-- a run's fault is that of the call that failed
pub fault-is : (failed fault : IoFault) → Causes {A = Outcome} none_counted (failed_calls (Some failed)) (Err fault) → failed ≡ fault
fault-is ReadFault ReadFault causes = refl
fault-is ReadFault WriteFault causes = absurd (none-either causes)
fault-is WriteFault ReadFault causes = absurd (none-rose causes)
fault-is WriteFault WriteFault causes = refl
