-- What instructions do to frames, as it is kept.
use Rattle.std.specs.Prelude.{◌≡◌, ◌≤◌, List, [], ◌∷◌, slice_get, Some, None, option_to_list}
use Rattle.jvm_definition.specs.declared.instruction.Instruction.{Instruction}
use Rattle.jvm_definition.specs.declared.linked_method.LinkedMethod.{LinkedMethod}
use Rattle.jvm_definition.specs.Program.{Program}
use Rattle.jvm_definition.specs.Shuffles.{forms_of}
use Rattle.jvm_definition.specs.Typing.{TypeFrame, TypeEffect, exchanges, takes_reference, takes_array, loads, stores, increments, shuffles, never, type_effect, applied, local_within, slots_of, call_type}
use Rattle.jvm_type_inference.specs.declared.action.Action.{Action}
use Rattle.jvm_type_inference.specs.declared.action.Action.TheVariants.{Exchanges, Takes, Calls, TakesReference, TakesArray, Loads, Stores, Increments, Shuffles, Never}

-- the program of which only the methods are known
abbrev pub program_over : List LinkedMethod → Program
program_over methods = record {
  field = λ f. None;
  method = slice_get methods;
  characters = λ c s.
      [];
  first = 0;
}

abbrev pub effect_of : Program → Action → TypeEffect
effect_of program (Exchanges kinds given) = exchanges kinds.now (option_to_list given)
effect_of program (Takes kind) = exchanges (kind ∷ []) []
effect_of program (Calls m) = call_type (program.method m)
effect_of program TakesReference = takes_reference
effect_of program TakesArray = takes_array
effect_of program (Loads kind i) = loads kind i
effect_of program (Stores kind i) = stores kind i
effect_of program (Increments i) = increments i
effect_of program (Shuffles name) = shuffles (forms_of name)
effect_of program Never = never

-- an instruction that is entered with a frame has another behind it
pub record Enters (program : Program) (method : LinkedMethod) (instruction : Instruction)
    (f behind : TypeFrame) : Type 0 where
  pub local : local_within (type_effect program instruction) method.locals
  pub fits : applied (type_effect program instruction) f ≡ Some behind
  pub within : slots_of behind.stack ≤ method.stack
