-- What a frame of a table is told against: the last one that was listed, or the method's start.
use Rattle.std.specs.Prelude.{ℕ, suc, List, [], ◌∷◌, Option, Some, None}
use Rattle.jvm_definition.specs.declared.kind.Kind.{Kind}
use Rattle.jvm_type_inference.specs.declared.frame.Frame.{Frame}

-- an offset, behind those before
abbrev pub last_offset : Option ℕ → List (ℕ × Frame) → Option ℕ
last_offset last [] = last
last_offset last (l ∷ listed) = last_offset (Some l.0) listed

-- local variables, behind those before
abbrev pub last_locals : List Kind → List (ℕ × Frame) → List Kind
last_locals before [] = before
last_locals before (l ∷ listed) = last_locals l.1.locals listed

-- the first offset behind the last one
abbrev pub start_of : Option ℕ → ℕ
start_of None = 0
start_of (Some last) = suc last
