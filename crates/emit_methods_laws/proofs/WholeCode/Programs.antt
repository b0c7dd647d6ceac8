-- Programs in which code is typed.
use Rattle.std.proofs.Common.{ℕ, Bool, false, List, [], All, Some, None, refl}
use Rattle.std.specs.Prelude.{get_or}
use Rattle.jvm_definition.specs.declared.kind.Kind.{Kind}
use Rattle.jvm_definition.specs.declared.linked_method.LinkedMethod.{LinkedMethod}
use Rattle.jvm_definition.specs.Program.{Program}
use Rattle.trampoline.specs.declared.start.Start.{Start}
use Rattle.emit_simulation_laws.specs.Helpers.{helper_parameters}
use Rattle.emit_types_laws.specs.Judging.{TakesGives}
use Rattle.emit_types_laws.specs.Knowing.{HelperTypes, helper_gives}
use Rattle.emit_types_laws.specs.Methods.{IsStart}

abbrev method_of : List Kind → Bool → LinkedMethod
method_of parameters gives = record { parameters = parameters; gives_int = gives; stack = 0; locals = 0; lines = [] }

abbrev program_of : (ℕ → LinkedMethod) → Program
program_of method = record { field = λ f. None; method = λ m. Some (method m); characters = λ class slot. []; first = 0 }

-- each method takes and gives what the helper of its number does
abbrev pub of_helpers : Program
of_helpers = program_of (λ m. method_of (helper_parameters m) (helper_gives m))

pub helper-types : HelperTypes of_helpers
helper-types number few =
    record { method = method_of (helper_parameters number) (helper_gives number); there = refl; parameters_are = refl; gives_are = refl }

-- no method takes or gives anything
abbrev pub of_nothing : Program
of_nothing = program_of (λ m. method_of [] false)

pub takes-nothing : (m : ℕ) → TakesGives of_nothing m [] false
takes-nothing m = record { method = method_of [] false; there = refl; parameters_are = refl; gives_are = refl }

pub are-starts : (starts : List Start) → All (IsStart of_nothing) starts
are-starts starts = λ k d less. takes-nothing (get_or starts k d).method
