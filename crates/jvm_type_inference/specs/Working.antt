-- The frame while straight code is walked.
use Rattle.std.specs.Prelude.{◌≡◌, ℕ, ◌+◌, if◌then◌else◌, List, [], ◌∷◌, slice_index_or}
use Rattle.jvm_definition.specs.declared.kind.Kind.{Kind}
use Rattle.jvm_definition.specs.declared.kind.Kind.TheVariants.{Top}
use Rattle.jvm_definition.specs.Typing.{TypeFrame, slots_of}
use Rattle.jvm_type_inference.specs.Joins.{is_top}

abbrev pub working : List Kind → List Kind → TypeFrame
working locals stack = record { locals = λ i. slice_index_or locals i Top; stack = stack }

-- how many operands have no type
abbrev pub tops_of : List Kind → ℕ
tops_of [] = 0
tops_of (k ∷ kinds) = (if is_top k then 1 else 0) + tops_of kinds

-- the words that operands take, and how many have no type
pub record AreCounted (kinds : List Kind) (words tops : ℕ) : Type 0 where
  pub words_are : words ≡ slots_of kinds
  pub tops_are : tops ≡ tops_of kinds
