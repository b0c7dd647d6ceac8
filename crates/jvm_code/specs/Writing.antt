-- JVM Specification, 4.7.3 and 6.5: how long instructions are, and lines from which code can be made.
use Rattle.std.specs.Prelude.{ℕ, [], ◌≡◌, ◌+◌, ◌≤◌, ◌<◌, true, List, ◌∷◌, length, None}
use Rattle.class_definition.specs.declared.line.Line.{Line}
use Rattle.class_definition.specs.declared.op.Op.{Op}
use Rattle.class_definition.specs.declared.op.Op.TheVariants.{TableSwitch, LookupSwitch}
use Rattle.class_definition.specs.Instructions.{instruction}
use Rattle.class_definition.specs.Code.{line_target_fault}
use Rattle.class_definition.specs.Sizes.{size_at}

-- a switch has at most 16,384 targets but for its default
abbrev pub HasFewTargets : Op → Type 0
HasFewTargets (TableSwitch s) = length s.targets ≤ 16384
HasFewTargets (LookupSwitch s) = length s.pairs ≤ 16384
HasFewTargets _ = Unit {0}

-- each line stands where the one before ends and can be spelled there, and the last one ends within the greatest code
abbrev pub AreLaid : ℕ → List Line → Type 0
AreLaid at [] = at ≤ 65535
AreLaid at (l ∷ lines) = (l.at ≡ at) × ((instruction at).fits l.op ≡ true)
    × AreLaid (at + size_at at l.op) lines

-- lines from which code can be made: there is one, they are laid out from 0 on, and each target is a line's offset
abbrev pub AreCode : List Line → Type 0
AreCode lines = (0 < length lines) × AreLaid 0 lines × (line_target_fault lines lines ≡ None)
