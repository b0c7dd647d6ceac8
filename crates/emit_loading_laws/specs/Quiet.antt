-- Turns that read no word of an array, make no switch, and enter no span.
use Rattle.std.specs.Prelude.{◌≡◌, ℕ, Bool, List}
use Rattle.jvm_definition.specs.declared.instruction.Instruction.{Instruction}
use Rattle.emit_steps.specs.Offsets.{CodeOffset}
use Rattle.jvm_definition.specs.Program.{Program}
use Rattle.jvm_definition.specs.Effect.{Workspace}
use Rattle.jvm_definition.specs.Step.{JvmState, Frame, frame_placed}
use Rattle.emit_steps.specs.declared.step.Step.{Step}
use Rattle.emit_steps.specs.Placing.{LiesAt}
use Rattle.emit_paths_laws.specs.Classes.{reads, switches, entries}
use Rattle.emit_loading_laws.specs.Leading.{Reaches}

-- A total has none of these, where such methods are those of the spans.
pub record IsQuiet (is_span : ℕ → Bool) (total : (Instruction → ℕ) → ℕ) : Type 0 where
  pub no_reads : total reads ≡ 0
  pub no_switches : total switches ≡ 0
  pub no_entries : total (entries is_span) ≡ 0

-- One state leads to another in so many turns at most, which only move, read no word, make no switch and enter no span, and of which none stands
-- in method m.
pub record Quietly (program : Program) (words m : ℕ) (is_span : ℕ → Bool) (most : ℕ) (x y : JvmState)
    : Type 0 where
  pub total : (Instruction → ℕ) → ℕ
  pub reaches : Reaches program words m most total x y
  pub quiet : IsQuiet is_span total

-- The code of a method has come so to what stands behind it.
pub record ComesTo (program : Program) (words own m : ℕ) (is_span : ℕ → Bool) (most : ℕ)
    (rest : List Step) (x : JvmState) (w : Workspace) (others : List Frame) : Type 0 where
  pub at : CodeOffset
  pub lies : LiesAt program own at rest
  pub quietly : Quietly program words m is_span most x (frame_placed own at w others)
