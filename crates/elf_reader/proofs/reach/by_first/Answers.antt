use Rattle.std.proofs.Common.{rules}
use Rattle.std.proofs.lemmas.List.Sorted.{IsNonDecreasingBy-from_sort_by_key}
use Rattle.elf_reader.specs.declared.span.Span.{Span}
use Rattle.elf_reader.proofs.reach.by_first.Goals as goal

pub returns-clause-rise : goal.returns-clause-rise
returns-clause-rise c =
    IsNonDecreasingBy-from_sort_by_key (λ (s : Span). s.first) _ c.in_ok-sort_by_key.ensures.sorted (λ a r q k. search rules)
