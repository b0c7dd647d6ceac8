-- What is used of the laws of paths, of choosers, of spans and of translated programs.
use Rattle.emit_paths_laws.specs.Laws.{CodeIsPath, StopsByEffect, TurnsAtSteps}
use Rattle.emit_spans_laws.specs.Entering.{EnteringOnlySwitches, SpansAreEntered}
use Rattle.emit_spans_laws.specs.Resuming.{FieldsHoldAll}
use Rattle.trampoline_laws.specs.Coming.{ClassChoosersCall, ClassChoosersReturn, MainChoosersCall, MainChoosersStray, MeteredStraysFault, PathsMakeNoCalls, SpentStraysEnd, StraysFault}
use Rattle.trampoline_laws.specs.Weights.{CallsAreSpared, ChoosersWeighTheirCalls, CountsSpareChoosing}
use Rattle.trampoline_laws.specs.Classes.{SpansLieInClasses, SpansRise, WordsFillClasses}
use Rattle.trampoline_laws.specs.Found.{WordsAreInSpans}
use Rattle.trampoline_laws.specs.Programs.{ChosenAreMethods, ClassesRise, ClassesStand, SpansAreNumbered, StraysAreMissing, WordsAreChosen}

-- ---- code

pub record CodeLaws : Type 0 where
  pub paths : CodeIsPath
  pub turns : TurnsAtSteps
  pub effects : StopsByEffect
  pub beside : PathsMakeNoCalls
  pub spared : CountsSpareChoosing

-- ---- choosers

pub record ChooserLaws : Type 0 where
  pub class_calls : ClassChoosersCall
  pub class_returns : ClassChoosersReturn
  pub main_calls : MainChoosersCall
  pub main_strays : MainChoosersStray
  pub weigh : ChoosersWeighTheirCalls
  pub no_calls : CallsAreSpared
  pub spared : CountsSpareChoosing

-- the method for addresses outside all code
pub record MissingLaws : Type 0 where
  pub plain : StraysFault
  pub metered : MeteredStraysFault
  pub spent : SpentStraysEnd
  pub weigh : ChoosersWeighTheirCalls
  pub spared : CountsSpareChoosing

-- ---- spans

pub record SpanLaws : Type 0 where
  pub enters : SpansAreEntered
  pub counts : EnteringOnlySwitches
  pub held : FieldsHoldAll

-- ---- classes, alone and in a translated program

pub record ClassLaws : Type 0 where
  pub rise : SpansRise
  pub fill : WordsFillClasses
  pub found : WordsAreInSpans
  pub lie : SpansLieInClasses

pub record ProgramLaws : Type 0 where
  pub classes : ClassLaws
  pub rise : ClassesRise
  pub methods : ChosenAreMethods
  pub stand : ClassesStand
  pub numbered : SpansAreNumbered
  pub chosen : WordsAreChosen
  pub strays : StraysAreMissing
