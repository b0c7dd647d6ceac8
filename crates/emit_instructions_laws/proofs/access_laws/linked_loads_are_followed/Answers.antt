use Rattle.emit_simulation_laws.proofs.GuestFollows.CodeLaws.{code-laws}
use Rattle.emit_instructions_laws.proofs.AccessLaws.Linking.{load-linked-follows}
use Rattle.emit_instructions_laws.proofs.access_laws.linked_loads_are_followed.Goals as goal

pub returns : goal.returns
returns c = load-linked-follows (code-laws c.code_is_paths.ensures) c.linked_loads_are_the_guests.ensures c.loaded_words_are_words.ensures
