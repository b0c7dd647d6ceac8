-- What the laws of lower crates say of the bodies of methods.
use Rattle.emit_types_laws.specs.Laws.{ClassChoosersAreTyped, FillsAreTyped, HelpersAreTyped, MainChoosersAreTyped, MakingIsTyped, MissingIsTyped, PuttingIsTyped, RunsAreTyped}
use Rattle.emit_types_laws.specs.Methods.{BodiesHaveTypings}
use Rattle.emit_types_laws.specs.Spans.{SpansAreTyped}

pub record TypingLaws : Type 0 where
  pub helpers : HelpersAreTyped
  pub main : MainChoosersAreTyped
  pub class : ClassChoosersAreTyped
  pub missing : MissingIsTyped
  pub words : PuttingIsTyped
  pub pages : MakingIsTyped
  pub fill : FillsAreTyped
  pub run : RunsAreTyped
  pub spans : SpansAreTyped
  pub bodies : BodiesHaveTypings
