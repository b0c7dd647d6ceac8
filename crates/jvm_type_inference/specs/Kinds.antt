-- Types in order, as they are kept.
use Rattle.std.specs.Prelude.{List, [], ◌++◌, drop, reverse, ℕ, Option, Some, None}
use Rattle.jvm_definition.specs.declared.kind.Kind.{Kind}
use Rattle.jvm_definition.specs.declared.kind.Kind.TheVariants.{Top, Int, Long, Null, Ints, Pages, Text}

-- those that several frames have in common, if there are such ones
abbrev pub kinds_of : Option (List Kind) → List Kind
kinds_of None = []
kinds_of (Some kinds) = kinds

-- operands, top first: some that are kept lowest first, above others
abbrev pub put_above : List Kind → List Kind → List Kind
put_above above below = reverse above ++ below

-- without those below that were taken
abbrev pub operands_of : List Kind → Option (List Kind) → ℕ → List Kind
operands_of above below taken = put_above above (drop taken (kinds_of below))

-- the number of a type
abbrev pub code_of : Kind → ℕ
code_of Top = 0
code_of Int = 1
code_of Long = 2
code_of Null = 3
code_of Ints = 4
code_of Pages = 5
code_of Text = 6
