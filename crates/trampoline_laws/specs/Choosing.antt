-- The method that belongs to an address, among methods by the addresses at which their parts of the code begin.
use Rattle.std.specs.Prelude.{◌≡◌, ℕ, suc, ◌%◌, ◌^◌, ◌<◌, ◌≤◌, int_lt, Bool, if◌then◌else◌, List, [], ◌∷◌, length, Some}
use Rattle.std.specs.List.{All}
use Rattle.run_definition.specs.Words.{signed_of}
use Rattle.delay_slots.specs.Places.{Address}
use Rattle.jvm_definition.specs.declared.linked_method.LinkedMethod.{LinkedMethod}
use Rattle.jvm_definition.specs.Program.{Program}
use Rattle.trampoline.specs.declared.start.Start.{Start}
use Rattle.trampoline.specs.Trees.{first_of}

-- ---- the method of an address

-- words are compared with signs
abbrev pub is_below : ℕ → ℕ → Bool
is_below a b = int_lt (signed_of a) (signed_of b)

-- the method of the last start that is not above the address, and this one where all are
abbrev pub chosen_from : ℕ → List Start → Address → ℕ
chosen_from method [] x = method
chosen_from method (s ∷ starts) x =
    chosen_from (if is_below x s.first then method else s.method) starts x

-- The method of the last start that is not above the address, and the first one's where all are.
abbrev pub chosen : List Start → Address → ℕ
chosen [] x = 0
chosen (s ∷ starts) x = chosen_from s.method starts x

-- ---- which starts are meant

-- they rise from an address on, each below address 80000000 (hexadecimal)
abbrev pub RiseFrom : Address → List Start → Type 0
RiseFrom low [] = Unit {0}
RiseFrom low (s ∷ starts) = (low ≤ s.first) × (s.first < 2 ^ 31) × RiseFrom (suc s.first) starts

abbrev pub Rise : List Start → Type 0
Rise starts = RiseFrom 0 starts

-- A method of the program that takes no arguments.
pub record IsMethod (program : Program) (number : ℕ) : Type 0 where
  pub method : LinkedMethod
  pub there : program.method number ≡ Some method
  pub no_parameters : method.parameters ≡ []

abbrev pub AreMethods : Program → List Start → Type 0
AreMethods program starts = All (λ (s : Start). IsMethod program s.method) starts

-- Starts among which a method can be chosen: one at least and so many at most, which rise, each with
-- a method of the program.
pub record AreStarts (program : Program) (most : ℕ) (starts : List Start) : Type 0 where
  pub some : 1 ≤ length starts
  pub few : length starts ≤ most
  pub rise : Rise starts
  pub methods : AreMethods program starts

-- ---- which addresses are followed

-- one of the words from an address to before another one
abbrev pub IsWithin : Address → Address → Address → Type 0
IsWithin first end x = (x % 4 ≡ 0) × (first ≤ x) × (x < end)

-- a word's address that is not below all starts
abbrev pub IsReached : List Start → Address → Type 0
IsReached starts x = IsWithin (first_of starts) (2 ^ 31) x
