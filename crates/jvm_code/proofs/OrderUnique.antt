-- That the lines of methods are in order is a proposition.
use Rattle.std.proofs.Common.{◌≡◌, ℕ, List, [], ◌∷◌, All, slice_index_or}
use Rattle.std.specs.List.{AllByRecursion}
use Rattle.std.proofs.Props.{props}
use mathlib.Core.HLevel.{Π_prop, Unit-prop}
use Rattle.jvm_definition.specs.declared.instruction.Instruction.{Instruction}
use Rattle.jvm_definition.specs.declared.instruction.Instruction.TheVariants.{LookupSwitch}
use Rattle.jvm_definition.specs.declared.linked_line.LinkedLine.{LinkedLine}
use Rattle.jvm_definition.specs.declared.linked_method.LinkedMethod.{LinkedMethod}
use Rattle.jvm_definition.specs.Program.{LaidFrom}
use Rattle.jvm_code.specs.Order.{KeysRise, LineRises, IsInOrder}

LaidFrom-prop : (at : ℕ) (lines : List LinkedLine) → IsProp (LaidFrom at lines)
LaidFrom-prop at [] = Unit-prop
LaidFrom-prop at (l ∷ lines) = hlevel (props, LaidFrom-prop l.next lines)

KeysRise-prop : (i : Instruction) → IsProp (KeysRise i)
KeysRise-prop (LookupSwitch s) = hlevel props
KeysRise-prop _ = Unit-prop

AllRise-prop : (lines : List LinkedLine) → IsProp (AllByRecursion LineRises lines)
AllRise-prop [] = Unit-prop
AllRise-prop (l ∷ lines) = hlevel (props, KeysRise-prop l.instruction, AllRise-prop lines)

IsInOrder-prop : (m : LinkedMethod) → IsProp (IsInOrder m)
IsInOrder-prop m = hlevel (props, LaidFrom-prop 0 m.lines, AllRise-prop m.lines)

pub AllInOrder-prop : (ms : List LinkedMethod) → IsProp (All IsInOrder ms)
AllInOrder-prop ms =
    Π_prop (λ k. Π_prop (λ d. Π_prop (λ _. IsInOrder-prop (slice_index_or ms k d))))
