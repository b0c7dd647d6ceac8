-- What looking for a fault of names answers.
use Rattle.std.specs.Prelude.{◌≡◌, Option, Some}
use Rattle.class_definition.specs.declared.link_fault.LinkFault.{LinkFault}
use Rattle.class_names.specs.declared.link_error.LinkError.{LinkError}
use Rattle.class_names.specs.declared.link_error.LinkError.TheVariants.{Refused, NoMemory}

-- an error is the first fault; want of memory may come anywhere
abbrev pub IsAnswer : Option LinkFault → LinkError → Type 0
IsAnswer found (Refused fault) = found ≡ Some fault
IsAnswer found NoMemory = Unit {0}
