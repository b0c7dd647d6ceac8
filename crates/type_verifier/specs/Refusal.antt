-- Which method of linked classes is not typed, and where.
use Rattle.std.specs.Prelude.{◌≡◌, ℕ, zero, suc, ◌+◌, ◌<◌, List, [], ◌∷◌, length, slice_get, Option, Some, None}
use Rattle.class_definition.specs.declared.class.Class.{Class}
use Rattle.jvm_definition.specs.declared.linked_method.LinkedMethod.{LinkedMethod}
use Rattle.jvm_definition.specs.Program.{Program}
use Rattle.jvm_definition.specs.Typing.{Typed}
use Rattle.jvm_type_inference.specs.Verdict.{FailsAt, LeastTyping}
use Rattle.class_definition.specs.Linking.{program_of}
use Rattle.class_definition.specs.declared.verify_fault.VerifyFault.{VerifyFault}
use Rattle.type_verifier.specs.declared.verify_error.VerifyError.{VerifyError}
use Rattle.type_verifier.specs.declared.verify_error.VerifyError.TheVariants.{Refused, NoMemory}

-- the number of methods of so many classes, the first ones
abbrev pub methods_before : List Class → ℕ → ℕ
methods_before [] number = 0
methods_before (c ∷ classes) zero = 0
methods_before (c ∷ classes) (suc number) = length c.methods + methods_before classes number

-- A method of a class, both numbered from 0, is not typed up to an offset; all methods before it are typed.
pub record IsAtFault (classes : List Class) (fault : VerifyFault) : Type 0 where
  pub class : Class
  pub class_is : slice_get classes fault.class ≡ Some class
  pub within : fault.method < length class.methods
  pub method : LinkedMethod
  pub method_is : (program_of classes).method (methods_before classes fault.class + fault.method)
      ≡ Some method
  pub fails : FailsAt (program_of classes) method fault.at
  pub earlier : (m : ℕ) (other : LinkedMethod)
      → m < methods_before classes fault.class + fault.method
      → (program_of classes).method m ≡ Some other → Typed (program_of classes) other

-- a refusal names the first method that is not typed; want of memory may come anywhere
abbrev pub IsRefusal : List Class → VerifyError → Type 0
IsRefusal classes (Refused fault) = IsAtFault classes fault
IsRefusal classes NoMemory = Unit {0}

-- all of so many methods are typed, or there is a first one that is not
abbrev pub IsFirstFault : Program → ℕ → Option (ℕ × ℕ) → Type 0
IsFirstFault program count None =
    (m : ℕ) (method : LinkedMethod) → m < count → program.method m ≡ Some method
    → LeastTyping program method
IsFirstFault program count (Some fault) =
    (fault.0 < count)
    × ((m : ℕ) (method : LinkedMethod) → m < fault.0 → program.method m ≡ Some method
    → LeastTyping program method)
    × ((method : LinkedMethod) → program.method fault.0 ≡ Some method
    → FailsAt program method fault.1)

-- a fault names this class, method and offset
abbrev pub IsFault : ℕ → ℕ → ℕ → VerifyError → Type 0
IsFault class method at (Refused fault) = (fault.class ≡ class) × (fault.method ≡ method)
    × (fault.at ≡ at)
IsFault class method at NoMemory = Unit {0}

-- a fault names the method with a number among those of all classes
abbrev pub IsPlace : List Class → ℕ → ℕ → VerifyError → Type 0
IsPlace classes number at (Refused fault) =
    ((class : Class) × (slice_get classes fault.class ≡ Some class)
    × (fault.method < length class.methods))
    × (methods_before classes fault.class + fault.method ≡ number)
    × (fault.at ≡ at)
IsPlace classes number at NoMemory = Unit {0}
