use Rattle.std.proofs.Common.{arith, refl, ap, length}
use Rattle.obj_reader.specs.declared.start.Start.{Start}
use Rattle.obj_reader.specs.Files.{files_of}
use Rattle.obj_reader.specs.Objects.{sections_from, symbols_from, relocations_from, next_start}
use Rattle.obj_reader.specs.Sections.{sections_of}
use Rattle.obj_reader.specs.Symbols.{symbols_of}
use Rattle.obj_reader.specs.Relocations.{relocations_of}
use Rattle.obj_reader.proofs.ObjectLemmas.{appended_object, files_first, passed_object, short_rest}
use Rattle.obj_reader.proofs.tables.read_objects.Goals as goal

pub loop-object-preserved : goal.loop-object-preserved
unfolding next_start
loop-object-preserved c =
    let start = c.loop-object.start in
    let next = c.in_ok-start.start in
    let file = c.as_slice.result.now in
    let files = files_of c.in-Some.others.now in
    let rest = files_of c.loop-object.rest.now in
    let is = c.in_ok-start.ensures.next in
    let first = files_first c.loop-object.rest.now c.in-Some.others.now c.in-Some.object.now file c.in-Some.ensures.cases.0 c.as_slice.ensures.value in
    record {
      sections =
          appended_object sections_of sections_from c.loop-object.tables.sections.items c.append_object.new.tables.sections.items _ start next file files rest
          refl first is c.in_ok-start.ensures.sections c.loop-object.invariant.sections;
      symbols =
          appended_object symbols_of symbols_from c.loop-object.tables.symbols.items c.append_object.new.tables.symbols.items _ start next file files rest
          refl first is c.in_ok-start.ensures.symbols c.loop-object.invariant.symbols;
      relocations =
          appended_object relocations_of relocations_from c.loop-object.tables.relocations.items c.append_object.new.tables.relocations.items _ start next file files rest
          refl first is c.in_ok-start.ensures.relocations c.loop-object.invariant.relocations;
      passed = passed_object start next file files rest _ first is c.in_ok-start.ensures.passed c.loop-object.invariant.passed;
      short = short_rest file files rest first c.loop-object.invariant.short;
      few = omega (arith, ap (λ (s : Start). s.object) is, c.loop-object.invariant.few, ap length c.in-Some.ensures.cases.0);
      few_sections = omega (arith, ap (λ (s : Start). s.object) is, c.loop-object.invariant.few_sections, c.in_ok-start.ensures.few_sections);
      few_symbols = omega (arith, ap (λ (s : Start). s.object) is, c.loop-object.invariant.few_symbols, c.in_ok-start.ensures.few_symbols);
    }
