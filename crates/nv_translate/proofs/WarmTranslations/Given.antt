-- The laws by which a program of classes runs warm, as the contracts of the crates below have them.
use Rattle.emit_program_laws.specs.SpanCodeLaws.Entering.{SpansAreEntered}
use Rattle.emit_program_laws.specs.SpanCodeLaws.LawfulUnits.{UnitsAreLawful}
use Rattle.emit_program_laws.specs.SpanCodeLaws.Made.{PiecesAreMade}
use Rattle.emit_program_laws.specs.SpanCodeLaws.Registers.{StretchesAreOfPieces, StretchesTouchRegistersOnce}
use Rattle.emit_program_laws.specs.SpanCodeLaws.Spans.{SpanPiecesFollow}
use Rattle.emit_program_laws.specs.TrampolineLaws.Programs.{SpansAreNumbered}
use Rattle.translate_classes_laws.specs.Naming.{HelpersNameWell, PiecesNameWell}

pub record WarmLaws : Type 0 where
  -- spans
  pub stretches : StretchesAreOfPieces
  pub enters : SpansAreEntered
  pub follows : SpanPiecesFollow
  pub made : PiecesAreMade
  pub once : StretchesTouchRegistersOnce
  -- what they call
  pub lawful : UnitsAreLawful
  pub pieces_call : PiecesNameWell
  pub helpers_call : HelpersNameWell
  -- methods
  pub numbered : SpansAreNumbered
