use Rattle.std.proofs.Common.{◌++◌, ap}
use Rattle.obj_reader.specs.Files.{files_of}
use Rattle.obj_linker.specs.declared.named_symbol.NamedSymbol.{NamedSymbol}
use Rattle.obj_linker.specs.Naming.{plain_symbols}
use Rattle.obj_linker.proofs.NamingLemmas.{named_more, no_stretch, none_named, plain_push}
use Rattle.obj_linker.proofs.named_symbols.name_symbols.Goals as goal

pub loop-s-init : goal.loop-s-init
loop-s-init c =
    let files = files_of c.args.objects.now in
    let letters = c.number_of.new.texts.keys in
    record {
      symbols = ap (λ l. plain_symbols l ++ c.args.symbols.now) c.new-named.ensures.items;
      each = none_named files letters _ c.new-named.ensures.items;
      stretch = no_stretch files letters c.empty-stretch.result c.empty-stretch.ensures;
      entry = c.in_ok-entry_number.ensures.number;
      apart = c.in_ok-entry_number.ensures.apart;
    }

pub loop-s-preserved : goal.loop-s-preserved
loop-s-preserved c =
    let now = c.loop-s.invariant in
    let made = c.in_ok-name.ensures in
    let x : NamedSymbol = record { symbol = c.in-Some.s.now; name = c.in_ok-name.name } in
    record {
      symbols =
          plain_push c.loop-s.named.items _ x c.loop-s.rest.now c.in-Some.later.now c.args.symbols.now c.in_ok-push.ensures.items
          c.in-Some.ensures.cases.0 now.symbols;
      each =
          named_more (files_of c.args.objects.now) c.loop-s.texts.keys c.name_number.new.texts.keys c.loop-s.named.items _ x made.kept
          c.in_ok-push.ensures.items now.each made.number;
      stretch = made.stretch;
      entry = made.kept c.in_ok-entry_number.entry_number c.args.entry.now now.entry;
      apart = made.apart;
    }
