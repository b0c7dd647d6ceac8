-- The laws that the law of a turn with a meter rests on.
use Rattle.std.proofs.Common.{ℕ}
use Rattle.delay_slots.specs.Laws.{UnitsAreMade, UnitsHaveTheirTurns, UnitsLeadOn}
use Rattle.jvm_definition.specs.Program.{Program}
use Rattle.emit_paths_laws.specs.Fields.{FieldsAreLeft}
use Rattle.emit_paths_laws.specs.Laws.{CodeIsPath}
use Rattle.meter_laws.specs.Laws.{GuardsKeepTheState, GuardsStopSpent, GuardsTakeTurnsOff}
use Rattle.emit_instructions_laws.specs.Steps.{UnitsLeadToWords, UnitsPassSlots}
use Rattle.emit_spans_laws.specs.Following.{UnitsAreFollowedBehindFronts}
use Rattle.emit_spans_laws.specs.Resuming.{FieldsHoldAll}
use Rattle.emit_metered_laws.specs.Leaving.{UnitsBehindFrontsLeaveOthers}
use Rattle.emit_program_laws.specs.Choosing.{MeteredStraysEnd, SpentStraysEnd}
use Rattle.emit_program_laws.proofs.TurnLaws.Given.{ProgramLaws}

-- what the turns of units are
pub record UnitLaws : Type 0 where
  pub counts : UnitsHaveTheirTurns
  pub slots : UnitsPassSlots
  pub words : UnitsLeadToWords
  pub made : UnitsAreMade
  pub leads : UnitsLeadOn

-- what the code of a word does with a meter
pub record WordLaws : Type 0 where
  pub paid : GuardsTakeTurnsOff
  pub kept : GuardsKeepTheState
  pub unpaid : GuardsStopSpent
  pub paths : CodeIsPath
  pub fronts : UnitsAreFollowedBehindFronts
  pub behind : UnitsBehindFrontsLeaveOthers

-- what programs do between words
pub record BetweenLaws : Type 0 where
  pub program : ProgramLaws
  pub stray_paid : MeteredStraysEnd
  pub stray_unpaid : SpentStraysEnd
  pub held : FieldsHoldAll
  pub fields : (program : Program) (words f : ℕ) → FieldsAreLeft program words f
