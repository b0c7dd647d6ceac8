use Rattle.mips_memory.proofs.ByteLemmas.{word_put-big, word_put-little}
use Rattle.mips_memory.proofs.accesses.put_word.Goals as goal

pub returns-in-Big-clause-after : goal.returns-in-Big-clause-after
returns-in-Big-clause-after c =
    rw c.in-Big.is (word_put-big c.args.bytes.now c.write_u32.new.buf c.args.at c.args.w c.requires c.write_u32.ensures)

pub returns-in-Little-clause-after : goal.returns-in-Little-clause-after
returns-in-Little-clause-after c =
    rw c.in-Little.is (word_put-little c.args.bytes.now c.write_u32-in-Little.new.buf c.args.at c.args.w c.requires c.write_u32-in-Little.ensures)
