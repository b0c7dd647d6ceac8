use Rattle.std.proofs.Common.{refl, ◌∙◌}
use Rattle.mips_definition.specs.declared.names.store_name.StoreName.TheVariants.{Swl, Swr}
use Rattle.mips_memory.proofs.ByteLemmas.{stored_around}
use Rattle.mips_memory.proofs.accesses.into_bytes.Goals as goal

pub returns-in-Swl-clause-after : goal.returns-in-Swl-clause-after
returns-in-Swl-clause-after c =
    rw c.in-Swl.is (c.put_word.ensures.after ∙ stored_around c.args.bytes.now c.args.at c.word_around.result c.word_around.ensures Swl c.args.order c.with_left-word.result c.args.w refl c.with_left-word.ensures)

pub returns-in-Swr-clause-after : goal.returns-in-Swr-clause-after
returns-in-Swr-clause-after c =
    rw c.in-Swr.is (c.put_word-in-Swr.ensures.after ∙ stored_around c.args.bytes.now c.args.at c.word_around-in-Swr.result c.word_around-in-Swr.ensures Swr c.args.order c.with_right-word.result c.args.w refl c.with_right-word.ensures)
