use Rattle.std.proofs.Common.{[], ap, map, sym, ◌∙◌}
use Rattle.std.proofs.lemmas.Result.{err_from_is_err_and}
use Rattle.obj_reader.specs.Files.{files_of}
use Rattle.obj_linker.specs.Names.{first_repeated, meaning_of}
use Rattle.obj_linker.specs.Naming.{symbols_in}
use Rattle.obj_linker.proofs.LinkLemmas.{names_pass, undefined_here}
use Rattle.obj_linker.proofs.resolving.resolve.Goals as goal

pub returns-in_err-check_defined-clause-refused : goal.returns-in_err-check_defined-clause-refused
returns-in_err-check_defined-clause-refused c =
    let p = err_from_is_err_and c.from_residual-in_err-check_defined.result c.from_residual-in_err-check_defined.ensures.1 in
    let t = c.args.tables.now in
    let files = files_of c.args.objects.now in
    let named = c.in_ok-named.named in
    let objects = c.in_ok-named.ensures.objects in
    let symbols = c.in_ok-named.ensures.symbols in
    let meanings =
    c.in_ok-meanings.ensures
    ∙ ap (λ o. map (meaning_of (files_of o) (symbols_in named)) (symbols_in named)) objects
    ∙ ap (λ l. map (meaning_of files l) l) symbols in
    let passed =
    ap (first_repeated files []) (sym symbols)
    ∙ ap (λ o. first_repeated (files_of o) [] (symbols_in named)) (sym objects) ∙ c.in_ok-names.ensures.passed in
    rw (p.1, p.2)
    (undefined_here files t.sections.items c.as_slice.result.now t.symbols.items c.as_slice-symbols.result.now
    t.relocations.items c.as_slice-relocations.result.now c.in_ok-meanings.meanings.items c.as_slice-2.result.now c.in_err-check_defined.field-0.0
    c.as_slice.ensures.value c.as_slice-symbols.ensures.value c.as_slice-relocations.ensures.value c.as_slice-2.ensures.value
    meanings c.in_ok-lows.ensures.passed passed c.in_err-check_defined.ensures.refused)

pub returns-clause-passed : goal.returns-clause-passed
returns-clause-passed c =
    let t = c.args.tables.now in
    let files = files_of c.args.objects.now in
    let named = c.in_ok-named.named in
    let objects = c.in_ok-named.ensures.objects in
    let symbols = c.in_ok-named.ensures.symbols in
    let meanings =
    c.in_ok-meanings.ensures
    ∙ ap (λ o. map (meaning_of (files_of o) (symbols_in named)) (symbols_in named)) objects
    ∙ ap (λ l. map (meaning_of files l) l) symbols in
    let passed =
    ap (first_repeated files []) (sym symbols)
    ∙ ap (λ o. first_repeated (files_of o) [] (symbols_in named)) (sym objects) ∙ c.in_ok-names.ensures.passed in
    names_pass files t.sections.items c.as_slice.result.now t.symbols.items c.as_slice-symbols.result.now
    t.relocations.items c.as_slice-relocations.result.now c.in_ok-meanings.meanings.items c.as_slice-2.result.now
    c.as_slice.ensures.value c.as_slice-symbols.ensures.value c.as_slice-relocations.ensures.value c.as_slice-2.ensures.value
    meanings c.in_ok-lows.ensures.passed passed c.in_ok-check_defined.ensures.passed
