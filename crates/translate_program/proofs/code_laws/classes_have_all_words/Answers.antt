use Rattle.translate_program.proofs.CodeFiles.WordLemmas.{all-words}
use Rattle.translate_program.proofs.code_laws.classes_have_all_words.Goals as goal

pub returns : goal.returns
returns c = all-words
