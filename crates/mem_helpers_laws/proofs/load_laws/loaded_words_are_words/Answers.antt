use Rattle.mem_helpers_laws.proofs.LoadLaws.Results.{IsWord-loaded}
use Rattle.mem_helpers_laws.proofs.load_laws.loaded_words_are_words.Goals as goal

pub returns : goal.returns
returns c heap readable writable a old memory order name h = IsWord-loaded heap readable writable memory h a old order name
