-- Where the classes of a translated program stand between the guest's turns.
use Rattle.std.specs.Prelude.{◌≡◌, ◌≢◌, ℕ, ◌+◌, ◌%◌, ◌<◌, ◌⊎◌, Bool, true, List, [], ◌∷◌, length, slice_get, Option, Some, None}
use Rattle.run_definition.specs.declared.order.Order.{Order}
use Rattle.run_definition.specs.Turn.{ends, «fault»}
use Rattle.mips_definition.specs.State as guest
use Rattle.delay_slots.specs.Places.{Address, WordIndex}
use Rattle.delay_slots.specs.Units.{units_of}
use Rattle.jvm_definition.specs.declared.value.Value.TheVariants.{Int as int}
use Rattle.jvm_definition.specs.Program.{Program}
use Rattle.jvm_definition.specs.Effect.{Workspace}
use Rattle.jvm_definition.specs.Step.{JvmState, Frame, frame_placed, jvm_turn}
use Rattle.emit_steps.specs.Placing.{LiesAt}
use Rattle.emit_steps.specs.Offsets.{CodeOffset}
use Rattle.emit_layout.specs.FieldNumbers.{pc_field}
use Rattle.emit_steps.specs.Returning.{returns}
use Rattle.emit_spans.specs.Laying.{entry_at}
use Rattle.emit_spans_laws.specs.GuestFollows.Sites as sites
use Rattle.emit_spans_laws.specs.GuestFollows.Sites.{Site}
use Rattle.emit_spans_laws.specs.GuestCodeLaws.Pieces.{HoldsAll}
use Rattle.emit_spans_laws.specs.Spans.{StandsAt}
use Rattle.meter_laws.specs.Meters.{spent_fault}
use Rattle.trampoline_laws.specs.Coming.{stray_fault}
use Rattle.trampoline_laws.specs.Classes.{CodeClass, run_of, span_words, is_span}
use Rattle.emit_program_laws.specs.Entered.{IsGuest}
use Rattle.emit_program_laws.specs.Going.{Waits}

-- ---- the guest

-- no word can be fetched from an address
abbrev pub IsStray : (ℕ → Option ℕ) → Address → Type 0
IsStray code a = (a % 4 ≢ 0) ⊎ (code a ≡ None)

-- ---- at the beginning of a method that chooses

-- The classes stand at the beginning of a method, above other frames. They hold a guest's state, whose address is in field pc.
pub record StandsChoosing (m : ℕ) (others : List Frame) (y : JvmState) (t : guest.State) : Type 0 where
  pub workspace : Workspace
  pub held : HoldsAll workspace t
  pub no_operands : workspace.operands ≡ []
  pub pc_is : workspace.fields pc_field ≡ int t.pc
  pub is_there : y ≡ frame_placed m 0 workspace others

-- They stand at the beginning of the method that chooses among classes.
pub record AtChoose (choose : ℕ) (y : JvmState) (t : guest.State) : Type 0 where
  pub at_start : Frame
  pub stands : StandsChoosing choose (at_start ∷ []) y t

-- They stand at the beginning of the one of a class, while the other one waits.
pub record AtRun (program : Program) (words : ℕ) (classes : List CodeClass) (choose : ℕ) (y : JvmState)
    (t : guest.State) : Type 0 where
  pub number : ℕ
  pub class : CodeClass
  pub there : slice_get classes number ≡ Some class
  pub in_main : Frame
  pub at_start : Frame
  pub main_waits : Waits program words (is_span classes) choose in_main (at_start ∷ [])
  pub stands : StandsChoosing (run_of class) (in_main ∷ at_start ∷ []) y t

-- ---- in the method of a span

-- Below the method of a span of a class wait the class's method that chooses, and the one that chooses among classes.
pub record IsBelow (program : Program) (words : ℕ) (is_span : ℕ → Bool) (choose : ℕ) (c : CodeClass)
    (others : List Frame) : Type 0 where
  pub in_class : Frame
  pub in_main : Frame
  pub at_start : Frame
  pub others_are : others ≡ in_class ∷ in_main ∷ at_start ∷ []
  pub class_waits : Waits program words is_span (run_of c) in_class (in_main ∷ at_start ∷ [])
  pub main_waits : Waits program words is_span choose in_main (at_start ∷ [])

-- the method of a span, above other frames
abbrev pub span_site : Program → ℕ → CodeClass → ℕ → List Frame → Site
span_site program words c j others = record {
  program = program;
  words = words;
  method = c.first_method + j;
  others = others;
}

-- the offset of the code of a word there
abbrev pub word_entry : CodeClass → ℕ → WordIndex → CodeOffset
word_entry c j word = entry_at (units_of c.words) c.leads (span_words c j) word

-- The classes stand at the code of the word at which the guest stands.
pub record AtWord (program : Program) (words : ℕ) (order : Order) (classes : List CodeClass)
    (choose : ℕ) (y : JvmState) (t : guest.State) : Type 0 where
  pub number : ℕ
  pub class : CodeClass
  pub there : slice_get classes number ≡ Some class
  pub span : ℕ
  pub span_below : span < length class.spans
  pub others : List Frame
  pub below : IsBelow program words (is_span classes) choose class others
  pub word : WordIndex
  pub workspace : Workspace
  pub stands : StandsAt order (span_words class span) word workspace t
  pub is_there : y ≡ sites.stands (span_site program words class span others)
      (word_entry class span word) workspace

-- They stand at a return of the method of a span, and field pc has the guest's address.
pub record AtReturn (program : Program) (words : ℕ) (classes : List CodeClass) (choose : ℕ)
    (y : JvmState) (t : guest.State) : Type 0 where
  pub number : ℕ
  pub class : CodeClass
  pub there : slice_get classes number ≡ Some class
  pub span : ℕ
  pub others : List Frame
  pub below : IsBelow program words (is_span classes) choose class others
  pub at : CodeOffset
  pub lies : LiesAt program (class.first_method + span) at (returns ∷ [])
  pub workspace : Workspace
  pub held : HoldsAll workspace t
  pub no_operands : workspace.operands ≡ []
  pub pc_is : workspace.fields pc_field ≡ int t.pc
  pub is_there : y ≡ sites.stands (span_site program words class span others) at workspace

-- ---- outside all code

-- The classes stand at the beginning of the method for addresses outside all code, and field pc has the guest's.
pub record AtMissing (missing : ℕ) (a : Address) (y : JvmState) : Type 0 where
  pub workspace : Workspace
  pub others : List Frame
  pub pc_is : workspace.fields pc_field ≡ int a
  pub is_there : y ≡ frame_placed missing 0 workspace others

-- They hold the guest's state there, too.
pub record HoldsAtMissing (missing : ℕ) (t : guest.State) (y : JvmState) : Type 0 where
  pub there : AtMissing missing t.pc y
  pub held : HoldsAll there.workspace t

-- the next turn ends the run in the fault of an address from which no word can be fetched
abbrev pub EndsStray : Program → ℕ → Address → JvmState → Type 0
EndsStray program words a y = jvm_turn program words y ≡ ends («fault» (stray_fault a))

-- it ends the run in the fault of a spent meter at that address
abbrev pub EndsSpent : Program → ℕ → Address → JvmState → Type 0
EndsSpent program words a y = jvm_turn program words y ≡ ends («fault» (spent_fault a))

-- fields and arrays are those of a workspace
abbrev pub HasStateOf : Workspace → JvmState → Type 0
HasStateOf w y = (y.fields ≡ w.fields) × (y.heap ≡ w.heap)
