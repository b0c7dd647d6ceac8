use Rattle.block_builder.proofs.MarkLemmas.{Marked}
use Rattle.block_builder.proofs.leaders.leader_flags.Given as goal

abbrev pub invariant-loop-word : goal.invariant-loop-word
invariant-loop-word l = Marked l.units l.start l.word l.flags.items
