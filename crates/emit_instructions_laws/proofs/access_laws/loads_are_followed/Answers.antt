use Rattle.emit_simulation_laws.proofs.GuestFollows.CodeLaws.{code-laws}
use Rattle.emit_instructions_laws.proofs.AccessLaws.Loading.{load-follows}
use Rattle.emit_instructions_laws.proofs.access_laws.loads_are_followed.Goals as goal

pub returns : goal.returns
returns c = λ name rs rt imm. load-follows (code-laws c.code_is_paths.ensures) c.loads_are_the_guests.ensures c.loaded_words_are_words.ensures rs rt imm name
