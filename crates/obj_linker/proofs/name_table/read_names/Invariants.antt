use Rattle.std.proofs.Common.{◌≡◌, ℕ, List, [], take, drop}
use Rattle.obj_reader.specs.Files.{files_of}
use Rattle.obj_linker.specs.Known.{known_in, known_of}
use Rattle.obj_linker.specs.Names.{first_repeated}
use Rattle.obj_linker.specs.Naming.{plain_symbols}
use Rattle.obj_linker.specs.Texts.{IsNumber}
use Rattle.obj_linker.proofs.name_table.read_names.Given as goal

-- what is known are the symbols so far, of which none defines a name again
abbrev pub invariant-loop-s : goal.invariant-loop-s
invariant-loop-s l = record {
  known : (n : ℕ) (name : List ℕ) → IsNumber l.named.texts.keys n name
      → known_in l.names n ≡ known_of (files_of l.named.objects.now) (plain_symbols (take l.s-index l.symbols)) name;
  passed :
      first_repeated (files_of l.named.objects.now) (plain_symbols (take l.s-index l.symbols)) (plain_symbols (drop l.s-index l.symbols))
      ≡ first_repeated (files_of l.named.objects.now) [] (plain_symbols l.symbols);
}
