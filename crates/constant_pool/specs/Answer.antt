-- What reading a pool answers, and how far a text was read.
use Rattle.std.specs.Prelude.{◌≡◌, ℕ, ◌-◌, List, ◌++◌, length, drop, Option, Some, None, option_map, Ok, Err}
use Rattle.class_definition.specs.declared.class_fault.ClassFault.{ClassFault}
use Rattle.class_definition.specs.declared.miss.Miss.{Miss}
use Rattle.class_definition.specs.declared.partial.Partial.{Partial}
use Rattle.constant_pool.specs.declared.error.ReadError.{ReadError}
use Rattle.constant_pool.specs.declared.error.ReadError.TheVariants.{Refused, NoMemory}
use Rattle.class_format.specs.declared.failure.Failure.{Failure}
use Rattle.class_format.specs.declared.failure.Failure.TheVariants.{Missed}
use Rattle.class_format.specs.declared.failure.Failure.TheVariants as failures
use Rattle.class_definition.specs.Format.{Reading, fault_at}
use Rattle.class_definition.specs.Utf8.{text_from}
use Rattle.class_definition.specs.PoolChecks.{pool}

-- a text with a front that was read before
abbrev pub whole_text : List ℕ → Option (List ℕ) → Option (List ℕ)
whole_text front text = option_map (λ cs. front ++ cs) text

-- the text of what is left, where a character so far is one
abbrev pub goes_on : Option Partial → List ℕ → Option (List ℕ)
goes_on None rest = None
goes_on (Some partial) rest = text_from partial rest

-- where so many bytes are left at a value's first one, a fault among its bytes
abbrev pub missed_by : ℕ → Option ClassFault → Option Miss
missed_by size fault = option_map (λ f. record { kind = f.kind; left = size - f.at }) fault

-- the fault of a reading of so many bytes that begin at a place
abbrev pub reading_fault : {A : Type 0} → ℕ → ℕ → Reading A → Option ClassFault
reading_fault start size (Ok x) = None
reading_fault start size (Err miss) = Some (fault_at start size miss)

-- the first rule on a pool that stands at a place which its bytes break
abbrev pub pool_fault : List ℕ → ℕ → Option ClassFault
pool_fault b at = reading_fault at (length (drop at b)) (pool.read (drop at b))

-- an error is the first fault; want of memory may come anywhere
abbrev pub IsAnswer : Option ClassFault → ReadError → Type 0
IsAnswer found (Refused fault) = found ≡ Some fault
IsAnswer found NoMemory = Unit {0}

abbrev pub refusal_of : ℕ → ℕ → Failure → ReadError
refusal_of start size (Missed miss) = Refused (fault_at start size miss)
refusal_of start size failures.NoMemory = NoMemory
