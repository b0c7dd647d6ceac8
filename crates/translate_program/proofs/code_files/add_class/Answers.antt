use Rattle.std.proofs.Common.{◌≡◌, ◌+◌, ◌++◌, ◌∷◌, [], length, map, ap, sym, ◌∙◌, arith, length-append}
use Rattle.std.proofs.lemmas.List.{length_push}
use Rattle.translate_program.specs.Classes.{run_of, starts_at}
use Rattle.translate_program.specs.Blocks.{block_of, told_of}
use Rattle.translate_program.proofs.code_files.add_class.Goals as goal

pub returns-clause-added : goal.returns-clause-added
returns-clause-added c =
    let old = c.args.code.now in
    let made = c.in_ok-file.ensures.value in
    let class = made.class in
    let is = made.class_is in
    let added = c.in_ok-add_file.ensures in
    let count : c.len.result ≡ length old.files.items = omega (arith, c.len.ensures) in
    record {
      class = class;
      class_is = record { number_is = is.number_is ∙ count; first_is = is.first_is; part_is = is.part_is; spans_are = is.spans_are };
      file = c.in_ok-file.file.file;
      file_is = made.file_is;
      files_are = added.files;
      starts_are =
          added.starts
          ∙ ap (λ run. old.starts.items ++ starts_at c.args.part.now run) made.run_is
          ∙ ap (λ part. old.starts.items ++ starts_at part (run_of class)) (sym is.part_is);
      runs_are = added.runs ∙ ap (λ run. old.runs.items ++ run ∷ []) made.run_is;
      spans_are = added.spans ∙ ap (λ l. old.spans.items ++ l) made.spans_are;
      told_is = added.told;
      blocks_are =
          added.blocks ∙ ap (λ l. old.blocks.items ++ told_of old.told (map (block_of (length old.spans.items)) l)) made.pieces_are;
      methods_are = added.methods ∙ ap (λ run. run + 1) made.run_is;
    }

pub returns-clause-few : goal.returns-clause-few
returns-clause-few c =
    let old = c.args.code.now in
    let file = c.in_ok-file.file in
    let made = c.in_ok-file.ensures in
    let added = c.in_ok-add_file.ensures in
    let few = c.requires.few in
    let files = ap length added.files in
    let more = length_push old.files.items file.file in
    record {
      spans = omega (arith, files, more, ap length added.spans, length-append old.spans.items file.spans.items, made.spans, few.spans);
      methods = omega (arith, files, more, added.methods, made.run, few.methods);
    }
