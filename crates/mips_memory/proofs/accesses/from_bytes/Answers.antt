use Rattle.std.proofs.Common.{refl, ◌∙◌}
use Rattle.mips_definition.specs.declared.names.load_name.LoadName.TheVariants.{Lwl, Lwr}
use Rattle.mips_memory.proofs.ByteLemmas.{loaded_around}
use Rattle.mips_memory.proofs.accesses.from_bytes.Goals as goal

pub returns-in-Lwl : goal.returns-in-Lwl
returns-in-Lwl c =
    rw c.in-Lwl.is (c.left.ensures ∙ loaded_around c.args.bytes.now c.args.at c.word_around.result c.word_around.ensures Lwl c.args.order c.args.old refl)

pub returns-in-Lwr : goal.returns-in-Lwr
returns-in-Lwr c =
    rw c.in-Lwr.is (c.right.ensures ∙ loaded_around c.args.bytes.now c.args.at c.word_around-in-Lwr.result c.word_around-in-Lwr.ensures Lwr c.args.order c.args.old refl)
