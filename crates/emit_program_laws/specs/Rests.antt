-- Where the classes rest between turns of the guest.
use Rattle.std.specs.Prelude.{◌≡◌, ℕ, ◌<◌, ◌≤◌, ◌⊎◌, List, length, slice_get, Option, Some}
use Rattle.run_definition.specs.Words.{IsWord}
use Rattle.run_definition.specs.declared.order.Order.{Order}
use Rattle.mips_definition.specs.State as guest
use Rattle.delay_slots.specs.Places.{WordIndex}
use Rattle.delay_slots.specs.declared.unit.Unit.{Unit}
use Rattle.delay_slots.specs.Units.{units_of}
use Rattle.jvm_definition.specs.Program.{Program}
use Rattle.jvm_definition.specs.Effect.{Workspace}
use Rattle.jvm_definition.specs.Step.{JvmState, Frame}
use Rattle.emit_spans_laws.specs.GuestFollows.Sites.{stands}
use Rattle.emit_spans_laws.specs.InPieces.{StandsInPiece, offset_in}
use Rattle.trampoline_laws.specs.Classes.{CodeClass, is_span, span_words}
use Rattle.emit_program_laws.specs.Entered.{IsGuest}
use Rattle.emit_program_laws.specs.Standing.{IsBelow, AtChoose, AtRun, AtWord, span_site}

-- The classes stand in a piece, before a unit that is not its first: those before it are done, and the rest follows.
pub record AtUnit (program : Program) (words : ℕ) (order : Order) (classes : List CodeClass)
    (choose : ℕ) (y : JvmState) (t : guest.State) : Type 0 where
  pub number : ℕ
  pub class : CodeClass
  pub there : slice_get classes number ≡ Some class
  pub span : ℕ
  pub span_below : span < length class.spans
  pub others : List Frame
  pub below : IsBelow program words (is_span classes) choose class others
  pub word : WordIndex
  pub front : List Unit
  pub unit : Unit
  pub rest : List Unit
  pub some_done : 1 ≤ length front
  pub workspace : Workspace
  pub held : StandsInPiece order (units_of class.words) class.leads (span_words class span)
      word front unit rest workspace t
  pub is_there : y ≡ stands (span_site program words class span others)
      (offset_in (units_of class.words) class.leads (span_words class span) word front)
      workspace

-- They stand at the code of a word, in a piece before one of its units, or at the beginning of a method that chooses.
abbrev pub StandsSomewhere : Program → ℕ → Order → List CodeClass → ℕ → JvmState → guest.State → Type 0
StandsSomewhere program words order classes choose y t =
    AtWord program words order classes choose y t
    ⊎ (AtUnit program words order classes choose y t
    ⊎ (AtRun program words classes choose y t ⊎ AtChoose choose y t))

-- They rest there while the guest stands between units.
pub record Rests (program : Program) (words : ℕ) (order : Order) (choose : ℕ)
    (classes : List CodeClass) (code : ℕ → Option ℕ) (t : guest.State) (y : JvmState)
    : Type 0 where
  pub guest_is : IsGuest order code t
  pub pc_word : IsWord t.pc
  pub stands : StandsSomewhere program words order classes choose y t
