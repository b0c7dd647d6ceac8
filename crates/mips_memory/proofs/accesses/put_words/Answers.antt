use Rattle.std.proofs.Common.{ap, ◌∙◌, List, ℕ, arith}
use Rattle.std.specs.Prelude.{slice_index}
use Rattle.mips_memory.proofs.ByteLemmas.{after_put, byte_of_words}
use Rattle.mips_memory.proofs.accesses.put_words.Goals as goal

pub returns-clause-words : goal.returns-clause-words
returns-clause-words c k =
    after_put c.args.bytes.now c.write_u32_into.new.dst c.args.at k (omega (arith, c.requires))
    ∙ ap (λ (l : List ℕ). slice_index l k) c.write_u32_into.ensures
    ∙ byte_of_words c.args.words.now k
