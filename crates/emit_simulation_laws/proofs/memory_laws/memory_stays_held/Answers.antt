use Rattle.emit_simulation_laws.proofs.Stores.{HoldsMemory-word, with_word-at}
use Rattle.emit_simulation_laws.proofs.Patches.{HoldsMemory-patched}
use Rattle.emit_simulation_laws.proofs.memory_laws.memory_stays_held.Goals as goal

pub returns-clause-held : goal.returns-clause-held
returns-clause-held c heap readable writable memory h = record {
  words = λ k p v page may_write is_word.
      HoldsMemory-word heap readable writable memory h k p v page may_write is_word;
  patches = λ patch a bytes may_write.
      HoldsMemory-patched patch heap readable writable memory a h bytes may_write;
}

pub returns-clause-stores : goal.returns-clause-stores
returns-clause-stores c = with_word-at
