-- A program that is the translation of a guest's code.
use Rattle.std.specs.Prelude.{◌≡◌, ℕ, ◌+◌, ◌<◌, ◌≤◌, Bool, true, false, List, length, slice_get, Option, Some, None}
use Rattle.std.specs.List.{All}
use Rattle.run_definition.specs.declared.order.Order.{Order}
use Rattle.delay_slots.specs.Places.{Address}
use Rattle.delay_slots.specs.Turns.{HasRange}
use Rattle.jvm_definition.specs.Program.{Program}
use Rattle.emit_steps.specs.Placing.{LiesAt}
use Rattle.trampoline.specs.Choosers.{main_chooser, missing_method}
use Rattle.emit_paths_laws.specs.Guest.{holds, in_one_span}
use Rattle.emit_simulation_laws.specs.Helpers.{HasHelpers, helper_count}
use Rattle.trampoline_laws.specs.Choosing.{AreMethods, IsMethod, IsReached, Rise, chosen}
use Rattle.trampoline_laws.specs.Classes.{CodeClass, HasClass, AreNumbered, AreOrdered, address, counted_span, counted_spans, is_span, run_of, span_starts, starts_of}

-- One of the words of classes stands at an address.
pub record IsInClass (classes : List CodeClass) (a : Address) : Type 0 where
  pub number : ℕ
  pub class : CodeClass
  pub there : slice_get classes number ≡ Some class
  pub word : ℕ
  pub below : word < class.count
  pub is_there : a ≡ address class word

-- The classes have all words of the code: their ranges are its ranges.
pub record IsCode (classes : List CodeClass) (code : ℕ → Option ℕ) : Type 0 where
  pub ranges : All (λ (c : CodeClass). HasRange code c.start c.words) classes
  pub only : (a : Address) (word : ℕ) → code a ≡ Some word → IsInClass classes a

-- In a program stand the helper methods, the method that chooses among classes, the one for addresses outside all code, by whether the program has
-- a meter, and the methods of the classes, whose numbers are higher.
pub record IsTranslated (metered : Bool) (program : Program) (order : Order) (choose missing : ℕ)
    (classes : List CodeClass) (code : ℕ → Option ℕ) : Type 0 where
  pub helpers : HasHelpers program order
  pub choose_lies : LiesAt program choose 0 (main_chooser (starts_of missing classes) missing)
  pub missing_is : IsMethod program missing
  pub missing_lies : LiesAt program missing 0 (missing_method metered)
  pub low : ℕ
  pub helpers_low : helper_count ≤ low
  pub choose_above : helper_count ≤ choose
  pub choose_low : choose < low
  pub missing_above : helper_count ≤ missing
  pub missing_low : missing < low
  pub has : All (HasClass program) classes
  pub metered_are : All (λ (c : CodeClass). c.metered ≡ metered) classes
  pub some : 1 ≤ length classes
  pub few : length (starts_of missing classes) ≤ 2048
  pub numbered : AreNumbered low classes
  pub ordered : AreOrdered classes
  pub code_is : IsCode classes code

-- ---- what follows for its classes

-- They begin at addresses that rise, and there is at least one of them.
pub record HasRisingClasses (missing : ℕ) (classes : List CodeClass) : Type 0 where
  pub rise : Rise (starts_of missing classes)
  pub some : 1 ≤ length (starts_of missing classes)

-- The methods that are chosen take no arguments.
pub record ChoosesMethods (program : Program) (missing : ℕ) (classes : List CodeClass)
    : Type 0 where
  -- among classes
  pub of_classes : AreMethods program (starts_of missing classes)
  -- among the spans of a class
  pub of_spans : (n : ℕ) (c : CodeClass) → slice_get classes n ≡ Some c
      → AreMethods program (span_starts c)

-- For the address of a word of a class, the method of that class is chosen among classes.
pub record IsChosen (missing : ℕ) (classes : List CodeClass) (c : CodeClass) (k : ℕ)
    : Type 0 where
  pub reached : IsReached (starts_of missing classes) (address c k)
  pub own : chosen (starts_of missing classes) (address c k) ≡ run_of c

-- For an address at which no code stands, and for which a method is chosen among classes, that is
-- the method for addresses outside all code.
abbrev pub LeavesStrays : ℕ → List CodeClass → (ℕ → Option ℕ) → Type 0
LeavesStrays missing classes code =
    (x : Address) → IsReached (starts_of missing classes) x → code x ≡ None
    → chosen (starts_of missing classes) x ≡ missing

-- Methods of spans are told by their numbers from all other methods.
pub record TellsSpans (low : ℕ) (classes : List CodeClass) : Type 0 where
  pub spans : (n : ℕ) (c : CodeClass) (j : ℕ) → slice_get classes n ≡ Some c → j < length c.spans
      → is_span classes (c.first_method + j) ≡ true
  -- those that choose among a class's spans
  pub runs : (n : ℕ) (c : CodeClass) → slice_get classes n ≡ Some c
      → is_span classes (run_of c) ≡ false
  -- the lower ones
  pub above : (n : ℕ) (c : CodeClass) → slice_get classes n ≡ Some c → low ≤ c.first_method
  pub lower : (m : ℕ) → m < low → is_span classes m ≡ false

-- Where one of two addresses lies in a span of a class and the other one does not, they do not lie
-- in one span of the program.
pub record KeepsApart (classes : List CodeClass) (c : CodeClass) (j : ℕ) : Type 0 where
  pub out : (a b : Address)
      → holds (counted_span c j) a ≡ true → holds (counted_span c j) b ≡ false
      → in_one_span (counted_spans classes) a b ≡ false
  pub into : (a b : Address)
      → holds (counted_span c j) a ≡ false → holds (counted_span c j) b ≡ true
      → in_one_span (counted_spans classes) a b ≡ false

-- A class stands in the program, and its range is one of the code's.
pub record StandsInProgram (program : Program) (code : ℕ → Option ℕ) (c : CodeClass)
    : Type 0 where
  pub has : HasClass program c
  pub range : HasRange code c.start c.words

-- ---- the laws

-- what is said of a program, with a number that is not above those of its classes' methods, is said
-- of each one that is the translation of a guest's code
abbrev pub OfTranslated : (Program → (low missing : ℕ) → List CodeClass → (ℕ → Option ℕ) → Type 0)
    → Type 0
OfTranslated Says =
    (metered : Bool) (program : Program) (order : Order) (choose missing : ℕ)
    (classes : List CodeClass) (code : ℕ → Option ℕ)
    → (t : IsTranslated metered program order choose missing classes code)
    → Says program t.low missing classes code

-- Its classes begin at addresses that rise.
abbrev pub ClassesRise : Type 0
ClassesRise = OfTranslated (λ program low missing classes code. HasRisingClasses missing classes)

-- The methods that are chosen are methods of it, and take no arguments.
abbrev pub ChosenAreMethods : Type 0
ChosenAreMethods =
    OfTranslated (λ program low missing classes code. ChoosesMethods program missing classes)

-- For the address of each word of a class, the class's method is chosen.
abbrev pub WordsAreChosen : Type 0
WordsAreChosen =
    OfTranslated (λ program low missing classes code. (n : ℕ) (c : CodeClass) (k : ℕ)
    → slice_get classes n ≡ Some c → k < c.count
    → IsChosen missing classes c k)

-- For an address at which no code stands, no method of a class is chosen.
abbrev pub StraysAreMissing : Type 0
StraysAreMissing =
    OfTranslated (λ program low missing classes code. LeavesStrays missing classes code)

-- Methods of spans are told by their numbers.
abbrev pub SpansAreNumbered : Type 0
SpansAreNumbered = OfTranslated (λ program low missing classes code. TellsSpans low classes)

-- Each class stands in it.
abbrev pub ClassesStand : Type 0
ClassesStand =
    OfTranslated (λ program low missing classes code. (n : ℕ) (c : CodeClass)
    → slice_get classes n ≡ Some c
    → StandsInProgram program code c)

-- Each span is apart from all others.
abbrev pub SpansAreApart : Type 0
SpansAreApart =
    OfTranslated (λ program low missing classes code. (n : ℕ) (c : CodeClass) (j : ℕ)
    → slice_get classes n ≡ Some c → j < length c.spans
    → KeepsApart classes c j)
