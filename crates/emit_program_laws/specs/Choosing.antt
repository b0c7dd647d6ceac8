-- How the classes of a translated program come from one word to the next.
use Rattle.std.specs.Prelude.{◌≡◌, ℕ, ◌≤◌, Bool, true, false, List, Option, Some}
use Rattle.run_definition.specs.Words.{IsWord}
use Rattle.run_definition.specs.declared.order.Order.{Order}
use Rattle.run_definition.specs.Turn.{ends, «fault»}
use Rattle.mips_definition.specs.State as guest
use Rattle.mips_definition.specs.Step as guest_step
use Rattle.delay_slots.specs.Places.{Address}
use Rattle.jvm_definition.specs.Program.{Program}
use Rattle.jvm_definition.specs.Step.{JvmState}
use Rattle.meter_laws.specs.Meters.{HasLeft}
use Rattle.trampoline_laws.specs.Coming.{stray_fault}
use Rattle.trampoline_laws.specs.Classes.{CodeClass, is_span}
use Rattle.trampoline_laws.specs.Programs.{IsTranslated}
use Rattle.emit_loading_laws.specs.Made.{HasBegun}
use Rattle.emit_program_laws.specs.Going.{ComesTo}
use Rattle.emit_program_laws.specs.Entered.{IsGuest}
use Rattle.emit_program_laws.specs.Standing.{IsStray, AtChoose, AtRun, AtWord, AtReturn, AtMissing, HoldsAtMissing, EndsStray, EndsSpent, HasStateOf}

-- ---- from the methods that choose

-- They come to the code of the word at which the guest stands: they read nothing, and make one entry
-- and one switch at most.
abbrev pub ComesToWord : Program → ℕ → Order → ℕ → List CodeClass → guest.State → JvmState → Type 0
ComesToWord program words order choose classes t y =
    ComesTo program words (is_span classes) 150 0 1
    (λ z. AtWord program words order classes choose z t) y

-- They come to the method for addresses outside all code, hold the guest's state there, and count nothing.
abbrev pub ComesToMissing : Program → ℕ → List CodeClass → ℕ → guest.State → JvmState → Type 0
ComesToMissing program words classes missing t y =
    ComesTo program words (is_span classes) 70 0 0 (HoldsAtMissing missing t) y

-- Where they go from the beginning of a method that chooses, by the guest's address.
pub record ChoosesWords (program : Program) (words : ℕ) (order : Order) (choose missing : ℕ)
    (classes : List CodeClass) (code : ℕ → Option ℕ) : Type 0 where
  -- where a word stands there
  pub from_choose : (t : guest.State) (word : ℕ) (y : JvmState)
      → IsGuest order code t → code t.pc ≡ Some word
      → AtChoose choose y t
      → ComesToWord program words order choose classes t y
  pub from_run : (t : guest.State) (word : ℕ) (y : JvmState)
      → IsGuest order code t → code t.pc ≡ Some word → IsWord t.pc
      → AtRun program words classes choose y t
      → ComesToWord program words order choose classes t y
  -- where none can be fetched
  pub stray_choose : (t : guest.State) (y : JvmState)
      → IsStray code t.pc → IsWord t.pc
      → AtChoose choose y t
      → ComesToMissing program words classes missing t y
  pub stray_run : (t : guest.State) (y : JvmState)
      → IsStray code t.pc → IsWord t.pc
      → AtRun program words classes choose y t
      → ComesToMissing program words classes missing t y

-- So it is in each translated program, with a meter or without.
abbrev pub ChoosersLeadToWords : Type 0
ChoosersLeadToWords =
    (metered : Bool) (program : Program) (words : ℕ) (order : Order) (choose missing : ℕ)
    (classes : List CodeClass) (code : ℕ → Option ℕ)
    → IsTranslated metered program order choose missing classes code
    → ChoosesWords program words order choose missing classes code

-- ---- outside all code

-- From that method the classes of a program without a meter come to the fault of an address from which no word can be fetched, and count nothing.
abbrev pub StraysEnd : Type 0
StraysEnd =
    (program : Program) (words : ℕ) (order : Order) (choose missing : ℕ)
    (classes : List CodeClass) (code : ℕ → Option ℕ) (a : Address) (y : JvmState)
    → IsTranslated false program order choose missing classes code
    → AtMissing missing a y
    → ComesTo program words (is_span classes) 10 0 0 (EndsStray program words a) y

-- So do those of one with a meter, where a turn is left.
abbrev pub MeteredStraysEnd : Type 0
MeteredStraysEnd =
    (program : Program) (words : ℕ) (order : Order) (choose missing : ℕ)
    (classes : List CodeClass) (code : ℕ → Option ℕ) (left : ℕ) (a : Address) (y : JvmState)
    → IsTranslated true program order choose missing classes code
    → (s : AtMissing missing a y)
    → HasLeft left s.workspace
    → 1 ≤ left
    → ComesTo program words (is_span classes) 13 0 0 (EndsStray program words a) y

-- Where none is left, they come to the fault of a spent meter at the address, and fields and arrays are as they were.
abbrev pub SpentStraysEnd : Type 0
SpentStraysEnd =
    (program : Program) (words : ℕ) (order : Order) (choose missing : ℕ)
    (classes : List CodeClass) (code : ℕ → Option ℕ) (a : Address) (y : JvmState)
    → IsTranslated true program order choose missing classes code
    → (s : AtMissing missing a y)
    → HasLeft 0 s.workspace
    → ComesTo program words (is_span classes) 6 0 0
    (λ z. EndsSpent program words a z × HasStateOf s.workspace z) y

-- Where no word can be fetched, the guest's run ends in that same fault.
abbrev pub GuestsStray : Type 0
GuestsStray =
    (order : Order) (code : ℕ → Option ℕ) (t : guest.State)
    → IsGuest order code t → IsStray code t.pc
    → guest_step.turn t ≡ ends («fault» (stray_fault t.pc))

-- ---- to them

-- Where the classes have begun, they stand at the beginning of the method that chooses among classes.
abbrev pub BegunProgramsChoose : Type 0
BegunProgramsChoose =
    (own choose : ℕ) (t : guest.State) (y : JvmState)
    → HasBegun own choose t y → AtChoose choose y t

-- From a return of the method of a span they come back to the beginning of its class's method that
-- chooses, and count nothing.
abbrev pub SpansComeBack : Type 0
SpansComeBack =
    (program : Program) (words : ℕ) (classes : List CodeClass) (choose : ℕ) (t : guest.State)
    (y : JvmState)
    → AtReturn program words classes choose y t
    → ComesTo program words (is_span classes) 13 0 0
    (λ z. AtRun program words classes choose z t) y
