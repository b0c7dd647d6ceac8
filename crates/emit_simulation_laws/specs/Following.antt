-- How code of the class machine follows a turn of the guest.
use Rattle.std.specs.Prelude.{◌≡◌, ℕ, ◌+◌, ◌<◌, ◌≤◌, IsTrue, []}
use Rattle.run_definition.specs.Question.{Question}
use Rattle.run_definition.specs.Answer.{Answer, answer_fits}
use Rattle.run_definition.specs.Turn.{Turn, moves, ends, leaves, asks}
use Rattle.run_simulation_laws.specs.Places.{Rises, visit}
use Rattle.mips_definition.specs.State as guest
use Rattle.jvm_definition.specs.declared.instruction.Instruction.{Instruction}
use Rattle.jvm_definition.specs.Effect.{Workspace}
use Rattle.jvm_definition.specs.Step.{JvmState}
use Rattle.emit_steps.specs.Offsets.{CodeOffset}
use Rattle.emit_paths_laws.specs.Classes.{place_in}
use Rattle.emit_simulation_laws.specs.Sites.{Site, PathIn, stands, turn_in}

-- A path of at least and at most so many turns leads from a state to an offset, and there the workspace is as said.
pub record ComesToEnd (site : Site) (low high : CodeOffset) (least most : ℕ)
    (total : (Instruction → ℕ) → ℕ) (Arrives : Workspace → Type 0) (x : JvmState) : Type 0 where
  pub turns : ℕ
  pub after : Workspace
  pub path : PathIn site low high turns total x (stands site high after)
  pub no_sooner : least ≤ turns
  pub in_time : turns ≤ most
  pub arrives : Arrives after

-- A path leads from a state to one whose turn is as said, by the number of turns up to it and by a place: where that turn is made in the
-- site's method, it is made at this offset, behind the places of the path. It is below the code's end, so nothing behind the code runs.
pub record ComesToTurn (site : Site) (low high : CodeOffset) (least most : ℕ)
    (total : (Instruction → ℕ) → ℕ) (Last : ℕ → CodeOffset → Turn JvmState → Type 0) (x : JvmState)
    : Type 0 where
  pub turns : ℕ
  pub before : JvmState
  pub place : CodeOffset
  pub path : PathIn site low place turns total x before
  pub is_there : Rises place (visit (place_in site.method before) []) (place + 1)
  pub below : place < high
  pub no_sooner : least ≤ turns + 1
  pub in_time : turns + 1 ≤ most
  pub last : Last (turns + 1) place (turn_in site before)

-- By each answer the classes come to the code's end, within what is left of so many turns.
pub record ComesOn (site : Site) (low high : CodeOffset) (used most : ℕ)
    (total : (Instruction → ℕ) → ℕ) (Arrives : Workspace → Answer → Type 0) (q : Question)
    (then : Answer → JvmState) : Type 0 where
  pub left : ℕ
  pub in_time : used + left ≤ most
  pub comes : (a : Answer) → IsTrue (answer_fits a q)
      → ComesToEnd site low high 0 left total (λ w. Arrives w a) (then a)

-- Both end so, both leave so, or both ask the same and the classes come on.
abbrev pub LastTurn : Site → CodeOffset → ℕ → ((Instruction → ℕ) → ℕ)
    → (Workspace → guest.State → Type 0) → Turn guest.State → ℕ → CodeOffset → Turn JvmState → Type 0
LastTurn site high most total Arrives (ends e) used place (ends f) = f ≡ e
LastTurn site high most total Arrives (leaves q e) used place (leaves r f) = (r ≡ q) × (f ≡ e)
LastTurn site high most total Arrives (asks q next) used place (asks r then) =
    (r ≡ q) × ComesOn site (place + 1) high used most total (λ w a. Arrives w (next a)) q then
LastTurn site high most total Arrives _ used place _ = ⊥

-- The classes follow so many turns of the guest, of which this is the last: where it moves, they come to the code's end; else to a turn that
-- is like it.
abbrev pub Follows : Site → (low high : CodeOffset) (least most : ℕ) → ((Instruction → ℕ) → ℕ)
    → (Workspace → guest.State → Type 0) → JvmState → Turn guest.State → Type 0
Follows site low high least most total Arrives x (moves t) =
    ComesToEnd site low high least most total (λ w. Arrives w t) x
Follows site low high least most total Arrives x last =
    ComesToTurn site low high least most total (LastTurn site high most total Arrives last) x
