use Rattle.std.proofs.Common.{nat_le, rules}
use Rattle.std.proofs.lemmas.List.Sorted.{IsPartitionPoint-from_clause, IsPartitionedBy-leb}
use Rattle.elf_reader.proofs.CountLemmas.{partition_count}
use Rattle.elf_reader.proofs.overlap.count_to.Goals as goal

pub returns-clause-value : goal.returns-clause-value
returns-clause-value c =
    let passes = IsPartitionPoint-from_clause (λ x. nat_le x c.args.limit) c.args.numbers.now c.partition_point.result
    c.partition_point.ensures.partitioned
    (IsPartitionedBy-leb (λ x. x) c.args.numbers.now c.args.limit c.requires)
    (λ a r q k. search rules) in
    partition_count (λ x. nat_le x c.args.limit) c.args.numbers.now _ c.partition_point.ensures.bound passes
