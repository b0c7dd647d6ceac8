-- The code of pieces and words with the exits behind them.
use Rattle.std.proofs.Common.{◌≡◌, ℕ, ◌≤◌, true, List, [], ◌∷◌, ◌++◌, All, Option}
use Rattle.delay_slots.specs.declared.unit.Unit.{Unit}
use Rattle.block_builder.specs.Leaders.{is_plain}
use Rattle.jvm_definition.specs.declared.kind.Kind.TheVariants.{Top}
use Rattle.emit_instructions.specs.Units.{unit_code}
use Rattle.word_emitter.specs.declared.extent.Extent.{Extent}
use Rattle.word_emitter.specs.Pieces.{warm_code}
use Rattle.word_emitter.specs.Exits.{exit_code}
use Rattle.emit_simulation_laws.specs.Lawful.{IsLawful}
use Rattle.emit_simulation_laws.proofs.PieceSets.{SetLaws, NeedLaws}
use Rattle.emit_types_laws.specs.Judging.{Rules, Leads}
use Rattle.emit_types_laws.proofs.TypedSteps.Joining.{codes-lead}
use Rattle.emit_types_laws.specs.Knowing.{HelperTypes, Opens, at_exit, unknown}
use Rattle.emit_types_laws.proofs.TypedCode.Pieces.{cold-lead, warm-lead}
use Rattle.emit_types_laws.proofs.TypedCode.Exits.{exit-leads}

module _ (rules : Rules) (room : 2 ≤ rules.more) (law : NeedLaws) (helpers : HelperTypes rules.program) where
  pub warm-part-leads : (laws : SetLaws) (units : List Unit) (last : Unit) (at : ℕ) (span : Extent) (behind : Option ℕ) (place : ℕ)
      → All (λ unit. is_plain unit ≡ true) units → All IsLawful (units ++ last ∷ []) → Opens rules span
      → Leads rules (warm_code (units ++ last ∷ []) at ++ exit_code span behind last place) unknown unknown
  warm-part-leads laws units last at span behind place plain lawful opens =
      codes-lead rules (warm_code (units ++ last ∷ []) at) (exit_code span behind last place) unknown (at_exit last Top) (unknown ∷ [])
      (warm-lead rules room law laws helpers units last at plain lawful) (exit-leads rules span opens behind last place Top)

  pub cold-part-leads : (unit : Unit) (at : ℕ) (span : Extent) (behind : Option ℕ) → IsLawful unit → Opens rules span
      → Leads rules (unit_code 0 unit at ++ exit_code span behind unit at) unknown unknown
  cold-part-leads unit at span behind lawful opens =
      codes-lead rules (unit_code 0 unit at) (exit_code span behind unit at) unknown (at_exit unit Top) (unknown ∷ [])
      (cold-lead rules room law helpers unit at lawful) (exit-leads rules span opens behind unit at Top)
