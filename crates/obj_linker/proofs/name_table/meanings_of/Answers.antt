use Rattle.std.proofs.lemmas.List.Elements.{All-same}
use Rattle.obj_reader.specs.Files.{files_of}
use Rattle.obj_linker.specs.Naming.{IsNamed, symbols_in}
use Rattle.obj_linker.proofs.KnownLemmas.{meaning_more}
use Rattle.obj_linker.proofs.name_table.meanings_of.Goals as goal

pub loop-s-preserved : goal.loop-s-preserved
loop-s-preserved c =
    let named = c.args.named.now in
    let files = files_of named.objects.now in
    let letters = named.texts.keys in
    let all = c.as_slice-symbols.result.now in
    let i = c.loop-s.s-index in
    let lt = c.loop-s-test.true in
    let each = All-same (IsNamed files letters) all named.symbols.items c.as_slice-symbols.ensures.value c.requires.named.each in
    meaning_more files letters (symbols_in named) all i _ c.args.names.now c.loop-s.meanings.items _ c.meaning_of.result lt c.requires.known
    (each i _ lt) c.meaning_of.ensures c.in_ok-push.ensures.items c.loop-s.invariant
