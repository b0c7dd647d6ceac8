use Rattle.translate_program.specs.DataFiles.{HasFiles, filled_pages}
use Rattle.translate_program.proofs.data_files.data_of.Given as goal

abbrev pub invariant-loop-k : goal.invariant-loop-k
invariant-loop-k l = HasFiles l.name l.code_classes l.methods (filled_pages l.image) l.k l.made
