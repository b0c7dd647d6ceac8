-- What is left on a meter stays there where no field is written.
use Rattle.std.proofs.Common.{◌≡◌, ℕ, Bool, List, refl, sym, ap, ◌∙◌, arith}
use Rattle.jvm_definition.specs.Effect.{Workspace}
use Rattle.jvm_definition.specs.Program.{Program}
use Rattle.jvm_definition.specs.Step.{JvmState, Frame, frame_placed}
use Rattle.emit_paths_laws.specs.Classes.{puts}
use Rattle.emit_paths_laws.specs.Fields.{FieldsAreLeft}
use Rattle.emit_paths_laws.specs.Paths.{LooksAtNoTarget}
use Rattle.meter.specs.Guards.{left_field}
use Rattle.meter_laws.specs.Meters.{HasLeft}
use Rattle.emit_program_laws.specs.Going.{Goes}
use Rattle.emit_metered_laws.specs.Metering.{HasLeftIn}

looks : (f : ℕ) → LooksAtNoTarget (puts f)
looks f name t u = refl

-- turns that only move, and write no field
pub left-then : (program : Program) (words : ℕ) (is_span : ℕ → Bool) (n most_reads most_entries left : ℕ) (x y : JvmState) → FieldsAreLeft program words left_field → Goes program words is_span n most_reads most_entries x y → HasLeftIn left x → HasLeftIn left y
left-then program words is_span n most_reads most_entries left x y fields goes has =
    let cost = goes.weighs (puts left_field) (looks left_field) in
    let none = goes.writes_none left_field in
    let same : y.fields left_field ≡ x.fields left_field = fields.trails n x y goes.comes (omega (arith, cost, none)) in
    record { field = same ∙ has.field; small = has.small }

-- what is left in a state is left in the workspace that stands there
pub left-there : (left m at : ℕ) (w : Workspace) (others : List Frame) (y : JvmState) → y ≡ frame_placed m at w others → HasLeftIn left y → HasLeft left w
left-there left m at w others y is has = (sym (ap (λ (s : JvmState). s.fields left_field) is) ∙ has.field, has.small)
