-- Where the classes go on in the method of a span, and when they follow a turn of the guest to there.
use Rattle.std.specs.Prelude.{◌≡◌, ℕ, ◌+◌, ◌%◌, ◌<◌, ◌≤◌, ◌⊎◌, Bool, true, false, IsTrue, List, [], ◌∷◌, None}
use Rattle.run_definition.specs.Question.{Question}
use Rattle.run_definition.specs.Answer.{Answer, answer_fits}
use Rattle.run_definition.specs.Turn.{Turn, moves, ends, leaves, asks}
use Rattle.mips_definition.specs.State.{State}
use Rattle.delay_slots.specs.declared.unit.Unit.{Unit}
use Rattle.delay_slots.specs.declared.unit.Unit.TheVariants.{Branch, SlotMissing, SlotIsBranch}
use Rattle.delay_slots.specs.Places.{Address, WordIndex}
use Rattle.jvm_definition.specs.declared.value.Value.TheVariants.{Int as int}
use Rattle.jvm_definition.specs.declared.instruction.Instruction.{Instruction}
use Rattle.jvm_definition.specs.Effect.{Workspace}
use Rattle.jvm_definition.specs.Step as machine
use Rattle.emit_steps.specs.Placing.{LiesAt}
use Rattle.emit_steps.specs.Offsets.{CodeOffset}
use Rattle.emit_layout.specs.FieldNumbers.{pc_field}
use Rattle.emit_steps.specs.Returning.{returns}
use Rattle.emit_spans.specs.declared.span_words.SpanWords.{SpanWords}
use Rattle.emit_spans.specs.Neighbours.{address}
use Rattle.emit_spans.specs.Laying.{entry_at}
use Rattle.emit_paths_laws.specs.Guest.{is_register_jump}
use Rattle.emit_simulation_laws.specs.Sites.{Site, PathIn, stands, turn_in}
use Rattle.emit_simulation_laws.specs.Following.{ComesToTurn}
use Rattle.emit_instructions_laws.specs.Pieces.{HoldsAll}

-- ---- where the classes go on

-- A workspace holds a state, and there are no operands.
pub record IsAtRest (w : Workspace) (t : State) : Type 0 where
  pub held : HoldsAll w t
  pub no_operands : w.operands ≡ []

-- A state is held in fields and arrays alone: another workspace with the same ones holds it too.
abbrev pub FieldsHoldAll : Type 0
FieldsHoldAll =
    (w v : Workspace) (t : State)
    → v.fields ≡ w.fields → v.heap ≡ w.heap
    → HoldsAll w t → HoldsAll v t

-- An offset is that of the code of the word of the span that stands at an address.
pub record IsEntryOf (units : List Unit) (leads : ℕ → Bool) (span : SpanWords) (at : CodeOffset)
    (a : Address) : Type 0 where
  pub word : WordIndex
  pub above : span.first ≤ word
  pub below : word < span.end
  pub is_there : a ≡ address span word
  pub entry : entry_at units leads span word ≡ at

-- The classes stand at the code of the word at which the guest stands.
pub record StandsAtWord (site : Site) (units : List Unit) (leads : ℕ → Bool) (span : SpanWords)
    (y : machine.JvmState) (t : State) : Type 0 where
  pub at : CodeOffset
  pub workspace : Workspace
  pub rests : IsAtRest workspace t
  pub entry : IsEntryOf units leads span at t.pc
  pub is_there : y ≡ stands site at workspace

-- ---- why they return

-- the unit begins with JR or JALR
abbrev pub jumps_by_register : Unit → Bool
jumps_by_register (Branch i slot) = is_register_jump i
jumps_by_register (SlotMissing i) = is_register_jump i
jumps_by_register (SlotIsBranch i word) = is_register_jump i
jumps_by_register _ = false

-- an address does not lie among those of the span
abbrev pub IsOutside : SpanWords → Address → Type 0
IsOutside span a = (a < address span span.first) ⊎ (address span span.end ≤ a)

-- A unit of a span whose words stand at addresses divisible by four goes where a register says, or to an address outside of the span.
abbrev pub GoesOut : SpanWords → Unit → Address → Type 0
GoesOut span unit a = span.start % 4 ≡ 0 → (jumps_by_register unit ≡ true) ⊎ IsOutside span a

-- They stand at a return behind a unit, and field pc says where the guest stands.
pub record StandsAtReturn (site : Site) (span : SpanWords) (unit : Unit) (y : machine.JvmState)
    (t : State) : Type 0 where
  pub at : CodeOffset
  pub workspace : Workspace
  pub rests : IsAtRest workspace t
  pub pc_is : workspace.fields pc_field ≡ int t.pc
  pub lies : LiesAt site.program site.method at (returns ∷ [])
  pub because : GoesOut span unit t.pc
  pub is_there : y ≡ stands site at workspace

-- behind a unit
abbrev pub Resumes : Site → List Unit → (ℕ → Bool) → SpanWords → Unit → machine.JvmState → State
    → Type 0
Resumes site units leads span unit y t = StandsAtWord site units leads span y t
    ⊎ StandsAtReturn site span unit y t

-- A return gives back to the frame below.
abbrev pub ReturnsGiveBack : Type 0
ReturnsGiveBack =
    (site : Site) (at : CodeOffset) (w : Workspace)
    → LiesAt site.program site.method at (returns ∷ [])
    → turn_in site (stands site at w) ≡ machine.returned_to site.others None w

-- ---- to there

-- A path of at least and at most so many turns leads from a state to one of which something is said.
pub record ComesTo (site : Site) (low high : CodeOffset) (least most : ℕ)
    (total : (Instruction → ℕ) → ℕ) (Arrives : machine.JvmState → Type 0) (x : machine.JvmState)
    : Type 0 where
  pub turns : ℕ
  pub after : machine.JvmState
  pub path : PathIn site low high turns total x after
  pub no_sooner : least ≤ turns
  pub in_time : turns ≤ most
  pub arrives : Arrives after

-- By each answer they come there, within what is left of so many turns.
pub record ComesToByAnswers (site : Site) (low high : CodeOffset) (used most : ℕ)
    (total : (Instruction → ℕ) → ℕ) (Arrives : machine.JvmState → Answer → Type 0) (q : Question)
    (then : Answer → machine.JvmState) : Type 0 where
  pub left : ℕ
  pub in_time : used + left ≤ most
  pub comes : (a : Answer) → IsTrue (answer_fits a q)
      → ComesTo site low high 0 left total (λ y. Arrives y a) (then a)

-- Both end so, both leave so, or both ask the same and the classes come there.
abbrev pub LastInSpan : Site → CodeOffset → ℕ → ((Instruction → ℕ) → ℕ)
    → (machine.JvmState → State → Type 0) → Turn State → ℕ → CodeOffset → Turn machine.JvmState → Type 0
LastInSpan site high most total Arrives (ends e) used place (ends f) = f ≡ e
LastInSpan site high most total Arrives (leaves q e) used place (leaves r f) = (r ≡ q) × (f ≡ e)
LastInSpan site high most total Arrives (asks q next) used place (asks r then) =
    (r ≡ q) × ComesToByAnswers site (place + 1) high used most total (λ y a. Arrives y (next a))
    q then
LastInSpan site high most total Arrives _ used place _ = ⊥

-- The classes follow so many turns of the guest, of which this is the last, to where they go on.
abbrev pub FollowsInSpan : Site → (low high : CodeOffset) (least most : ℕ) → ((Instruction → ℕ) → ℕ)
    → (machine.JvmState → State → Type 0) → machine.JvmState
    → Turn State → Type 0
FollowsInSpan site low high least most total Arrives x (moves t) =
    ComesTo site low high least most total (λ y. Arrives y t) x
FollowsInSpan site low high least most total Arrives x last =
    ComesToTurn site low high least most total (LastInSpan site high most total Arrives last) x
