use Rattle.std.proofs.Common.{◌≡◌, ◌++◌, drop}
use Rattle.elf_reader.proofs.SpanLemmas.{reach_from}
use Rattle.elf_reader.proofs.reach.reaching.Given as goal

abbrev pub invariant-loop-s : goal.invariant-loop-s
invariant-loop-s l = l.reaches.items ++ reach_from l.furthest (drop l.s-index l.spans) ≡ reach_from 0 l.spans
