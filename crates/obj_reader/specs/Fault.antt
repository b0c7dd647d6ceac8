-- What is answered where objects are refused: the first check that fails, in the order of the kinds.
use Rattle.std.specs.Prelude.{◌≡◌, ℕ, Bool, if◌then◌else◌, List, [], ◌∷◌, Option, Some, None, option_map}
use Rattle.std.specs.Option.{option_or}
use Rattle.elf_definition.specs.declared.obj_fault.ObjFault.{ObjFault}
use Rattle.obj_reader.specs.declared.obj_error.ObjError.{ObjError}
use Rattle.obj_reader.specs.declared.obj_error.ObjError.TheVariants.{Refused, NoMemory}

-- a check of a kind of an object, given the place that it names, and whether it fails
abbrev pub object_fails : ℕ → ℕ → ℕ → Bool → Option ObjFault
object_fails object kind at failed =
    if failed then Some (record { object = object; kind = kind; at = at }) else None

-- a check that names the first place at which it fails, if there is one
abbrev pub object_fails_at : ℕ → ℕ → Option ℕ → Option ObjFault
object_fails_at object kind place =
    option_map (λ at. record { object = object; kind = kind; at = at }) place

-- the first check of a list that fails
abbrev pub first_object_fault : List (Option ObjFault) → Option ObjFault
first_object_fault [] = None
first_object_fault (check ∷ checks) = option_or check (first_object_fault checks)

-- the first place that some of these have
abbrev pub first_place : {X : Type 0} → (X → Option ℕ) → List X → Option ℕ
first_place place [] = None
first_place place (x ∷ xs) = option_or (place x) (first_place place xs)

-- an error is the first fault; want of memory may come at any objects
abbrev pub IsAnswer : Option ObjFault → ObjError → Type 0
IsAnswer found (Refused fault) = found ≡ Some fault
IsAnswer found NoMemory = Unit {0}
