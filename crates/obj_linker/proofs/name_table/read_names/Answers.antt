use Rattle.std.proofs.Common.{◌+◌, [], ap, refl, take, ◌∙◌}
use Rattle.std.proofs.lemmas.List.Elements.{All-same}
use Rattle.std.proofs.lemmas.Result.{err_from_is_err_and}
use Rattle.obj_reader.specs.Files.{files_of}
use Rattle.obj_linker.specs.Names.{first_repeated}
use Rattle.obj_linker.specs.Naming.{IsNamed, plain_symbols}
use Rattle.obj_linker.proofs.KnownLemmas.{known_first, known_more, passed_more, repeated_here}
use Rattle.obj_linker.proofs.NamingLemmas.{plain_more}
use Rattle.obj_linker.proofs.name_table.read_names.Goals as goal

pub loop-s-init : goal.loop-s-init
loop-s-init c = record {
  known = λ n name _. known_first (files_of c.args.named.now.objects.now) _ n name c.new-names.ensures;
  passed = refl;
}

pub loop-s-preserved : goal.loop-s-preserved
loop-s-preserved c =
    let named = c.args.named.now in
    let files = files_of named.objects.now in
    let letters = named.texts.keys in
    let all = c.as_slice-symbols.result.now in
    let i = c.loop-s.s-index in
    let lt = c.loop-s-test.true in
    let here = All-same (IsNamed files letters) all named.symbols.items c.as_slice-symbols.ensures.value c.requires.each i _ lt in
    record {
      known =
          known_more files letters c.requires.apart (plain_symbols (take i all)) (plain_symbols (take (i + 1) all)) _ c.loop-s.names
          c.add_symbol.new.names c.loop-s.invariant.known c.in_ok-add_symbol.ensures.known here (plain_more all i _ lt);
      passed =
          passed_more files letters all i _ c.loop-s.names _ lt c.loop-s.invariant.known here c.in_ok-add_symbol.ensures.passed
          c.loop-s.invariant.passed;
    }

pub returns-in_err-add_symbol-clause-refused : goal.returns-in_err-add_symbol-clause-refused
returns-in_err-add_symbol-clause-refused c =
    let named = c.args.named.now in
    let files = files_of named.objects.now in
    let letters = named.texts.keys in
    let all = c.as_slice-symbols.result.now in
    let i = c.loop-s.s-index in
    let lt = c.loop-s-test.true in
    let is = c.as_slice-symbols.ensures.value in
    let here = All-same (IsNamed files letters) all named.symbols.items is c.requires.each i _ lt in
    let whole = c.loop-s.invariant.passed ∙ ap (λ l. first_repeated files [] (plain_symbols l)) is in
    let p = err_from_is_err_and c.from_residual.result c.from_residual.ensures.1 in
    rw (p.1, p.2)
    (repeated_here files letters all i _ c.loop-s.names _ c.in_err-add_symbol.field-0.0 lt c.loop-s.invariant.known here whole
    c.in_err-add_symbol.ensures.refused)
