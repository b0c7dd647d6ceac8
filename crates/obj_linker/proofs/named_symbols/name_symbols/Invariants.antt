use Rattle.std.proofs.Common.{◌≡◌, ◌++◌, length}
use Rattle.std.specs.List.{All}
use Rattle.obj_reader.specs.Files.{files_of}
use Rattle.obj_linker.specs.Naming.{IsNamed, IsStretch, plain_symbols}
use Rattle.obj_linker.specs.Texts.{AreApart, IsNumber}
use Rattle.obj_linker.proofs.named_symbols.name_symbols.Given as goal

-- the symbols so far have their names
abbrev pub invariant-loop-s : goal.invariant-loop-s
invariant-loop-s l = record {
  symbols : plain_symbols l.named.items ++ l.rest ≡ l.symbols;
  each : All (IsNamed (files_of l.objects) l.texts.keys) l.named.items;
  stretch : IsStretch (files_of l.objects) l.texts.keys l.stretch;
  entry : IsNumber l.texts.keys l.entry_number l.entry;
  apart : AreApart l.texts.keys;
}

abbrev pub decreases-loop-s : goal.decreases-loop-s
decreases-loop-s l = length l.rest
