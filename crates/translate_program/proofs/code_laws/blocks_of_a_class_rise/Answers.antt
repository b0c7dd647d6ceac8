use Rattle.translate_program.proofs.CodeFiles.BlockLemmas.{block-follows}
use Rattle.translate_program.proofs.code_laws.blocks_of_a_class_rise.Goals as goal

pub returns-clause-words : goal.returns-clause-words
returns-clause-words c before method_bytes class i j a b are lower first second =
    (block-follows before method_bytes class i j a b are lower first second).0

pub returns-clause-code : goal.returns-clause-code
returns-clause-code c before method_bytes class i j a b are lower first second =
    (block-follows before method_bytes class i j a b are lower first second).1
