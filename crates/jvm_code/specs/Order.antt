-- The lines of linked methods: they stand one after the other, and the keys of each switch rise.
use Rattle.std.specs.Prelude.{◌≡◌, true, List}
use Rattle.std.specs.List.{AllByRecursion}
use Rattle.class_definition.specs.Switches.{rises}
use Rattle.jvm_definition.specs.declared.instruction.Instruction.{Instruction}
use Rattle.jvm_definition.specs.declared.instruction.Instruction.TheVariants.{LookupSwitch}
use Rattle.jvm_definition.specs.declared.linked_line.LinkedLine.{LinkedLine}
use Rattle.jvm_definition.specs.declared.linked_method.LinkedMethod.{LinkedMethod}
use Rattle.jvm_definition.specs.Program.{LaidFrom}

-- the keys of a switch rise
abbrev pub KeysRise : Instruction → Type 0
KeysRise (LookupSwitch s) = rises s.pairs ≡ true
KeysRise _ = Unit {0}

abbrev pub LineRises : LinkedLine → Type 0
LineRises l = KeysRise l.instruction

abbrev pub AreInOrder : List LinkedLine → Type 0
AreInOrder lines = LaidFrom 0 lines × AllByRecursion LineRises lines

abbrev pub IsInOrder : LinkedMethod → Type 0
IsInOrder m = AreInOrder m.lines
