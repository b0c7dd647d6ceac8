-- The spans of words of a class of code, and the units of these.
use Rattle.std.specs.Prelude.{◌≡◌, ℕ, ◌+◌, ◌≤◌, All, List}
use Rattle.run_definition.specs.Words.{IsWord}
use Rattle.delay_slots.specs.declared.unit.Unit.{Unit}
use Rattle.delay_slots.specs.Units.{units_of, HasNoFloat}
use Rattle.method_splitter.specs.declared.span.Span.{Span}

-- words of a part
pub record IsSpan (words : ℕ) (s : Span) : Type 0 where
  pub some : 1 ≤ s.words
  pub within : s.first + s.words ≤ words

-- units of words that have none of the floating-point coprocessor among them
pub record IsCode (units : List Unit) : Type 0 where
  pub words : List ℕ
  pub are_words : All IsWord words
  pub no_float : HasNoFloat words
  pub units_are : units ≡ units_of words
