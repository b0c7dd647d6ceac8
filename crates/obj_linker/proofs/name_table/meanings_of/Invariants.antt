use Rattle.std.proofs.Common.{◌≡◌, map, take}
use Rattle.obj_reader.specs.Files.{files_of}
use Rattle.obj_linker.specs.Names.{meaning_of}
use Rattle.obj_linker.specs.Naming.{plain_symbols, symbols_in}
use Rattle.obj_linker.proofs.name_table.meanings_of.Given as goal

-- the meanings so far
abbrev pub invariant-loop-s : goal.invariant-loop-s
invariant-loop-s l =
    l.meanings.items ≡ map (meaning_of (files_of l.named.objects.now) (symbols_in l.named)) (plain_symbols (take l.s-index l.symbols))
