-- The laws that the law of a turn rests on.
use Rattle.delay_slots.specs.Laws.{UnitsAreMade, UnitsLeadOn}
use Rattle.emit_spans_laws.specs.GuestCodeLaws.Counting.{UnitsAreCounted}
use Rattle.emit_spans_laws.specs.GuestCodeLaws.Steps.{UnitsCrossSpans, UnitsLeadToWords, UnitsPassSlots, UnitsReadAsTold}
use Rattle.emit_spans_laws.specs.InPieces.{UnitsStandInPieces}
use Rattle.emit_spans_laws.specs.Following.{FetchingIsSpared, InnerUnitsAreFollowed, LastUnitsAreFollowed, PiecesAreEntered, WordsAloneAreFollowed}
use Rattle.trampoline_laws.specs.Classes.{SpansLieInClasses}
use Rattle.trampoline_laws.specs.Programs.{ClassesStand, SpansAreApart, SpansAreNumbered}
use Rattle.emit_program_laws.specs.Choosing.{ChoosersLeadToWords, GuestsStray, SpansComeBack, StraysEnd}

-- what units do, and count
pub record UnitLaws : Type 0 where
  pub counted : UnitsAreCounted
  pub reads : UnitsReadAsTold
  pub crossings : UnitsCrossSpans
  pub slots : UnitsPassSlots
  pub words : UnitsLeadToWords
  pub made : UnitsAreMade
  pub leads : UnitsLeadOn

-- what the method of a span does unit by unit
pub record SpanLaws : Type 0 where
  pub in_pieces : UnitsStandInPieces
  pub alone : WordsAloneAreFollowed
  pub enters : PiecesAreEntered
  pub enters_spared : FetchingIsSpared
  pub inner : InnerUnitsAreFollowed
  pub last : LastUnitsAreFollowed

-- what translated programs have, and do between spans
pub record ProgramLaws : Type 0 where
  pub stand : ClassesStand
  pub lie : SpansLieInClasses
  pub numbered : SpansAreNumbered
  pub apart : SpansAreApart
  pub lead : ChoosersLeadToWords
  pub stray_end : StraysEnd
  pub stray : GuestsStray
  pub come_back : SpansComeBack
