use Rattle.emit_simulation_laws.proofs.LawfulUnits.Spelling.{word_is_spelled}
use Rattle.emit_simulation_laws.proofs.unit_laws.words_have_fields.Goals as goal

pub returns-clause-fields : goal.returns-clause-fields
returns-clause-fields c word is_word = (word_is_spelled word is_word).fields

pub returns-clause-values : goal.returns-clause-values
returns-clause-values c word is_word = (word_is_spelled word is_word).value
