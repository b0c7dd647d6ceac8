use Rattle.translate_program.proofs.data_files.add_class.Goals as goal

pub returns : goal.returns
returns c = record {
  file = c.in_ok-file.file;
  file_is = c.in_ok-file.ensures;
  files_are = c.in_ok-push-2.ensures.items;
  fills_are = c.in_ok-push.ensures.items;
}
