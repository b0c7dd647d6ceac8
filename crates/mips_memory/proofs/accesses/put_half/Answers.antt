use Rattle.mips_memory.proofs.ByteLemmas.{half_put-big, half_put-little}
use Rattle.mips_memory.proofs.accesses.put_half.Goals as goal

pub returns-in-Big-clause-after : goal.returns-in-Big-clause-after
returns-in-Big-clause-after c =
    rw c.in-Big.is (half_put-big c.args.bytes.now c.write_u16.new.buf c.args.at c.args.w c.requires c.write_u16.ensures)

pub returns-in-Little-clause-after : goal.returns-in-Little-clause-after
returns-in-Little-clause-after c =
    rw c.in-Little.is (half_put-little c.args.bytes.now c.write_u16-in-Little.new.buf c.args.at c.args.w c.requires c.write_u16-in-Little.ensures)
