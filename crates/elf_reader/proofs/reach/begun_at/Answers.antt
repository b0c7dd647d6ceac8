use Rattle.std.proofs.Common.{nat_le, rules, arith}
use Rattle.std.proofs.lemmas.Bool.{leb-true, leb-false}
use Rattle.std.proofs.lemmas.List.Sorted.{IsPartitionPoint-from_clause, IsPartitionedBy-leb}
use Rattle.elf_reader.specs.declared.span.Span.{Span}
use Rattle.elf_reader.proofs.reach.begun_at.Goals as goal

pub returns-clause-begun : goal.returns-clause-begun
returns-clause-begun c = λ k d below.
    let passes = IsPartitionPoint-from_clause (λ (s : Span). nat_le s.first c.args.at) c.args.spans.now c.partition_point.result
    c.partition_point.ensures.partitioned
    (IsPartitionedBy-leb (λ (s : Span). s.first) c.args.spans.now c.args.at c.requires.firsts)
    (λ a r q k. search rules) in
    leb-true _ _ (passes.0 k d (omega arith) below)

pub returns-clause-later : goal.returns-clause-later
returns-clause-later c = λ k d from within.
    let passes = IsPartitionPoint-from_clause (λ (s : Span). nat_le s.first c.args.at) c.args.spans.now c.partition_point.result
    c.partition_point.ensures.partitioned
    (IsPartitionedBy-leb (λ (s : Span). s.first) c.args.spans.now c.args.at c.requires.firsts)
    (λ a r q k. search rules) in
    leb-false _ _ (passes.1 k d from within)
