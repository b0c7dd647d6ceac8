use Rattle.std.proofs.Common.{◌∷◌, Ok, map, take}
use Rattle.std.specs.Prelude.{string_bytes}
use Rattle.command_deeds.specs.Readying.{AddsArgs}
use Rattle.command_deeds.proofs.readying.add_arguments.Given as goal

abbrev pub invariant-loop-text : goal.invariant-loop-text
invariant-loop-text l = AddsArgs (l.name ∷ map string_bytes (take l.text-index l.texts)) l.fn.unix l.unix (Ok tt)
