use Rattle.std.proofs.Common.{rules}
use Rattle.std.proofs.lemmas.List.Sorted.{IsNonDecreasingBy-from_sort_by_key}
use Rattle.elf_definition.specs.declared.range.Range.{Range}
use Rattle.elf_reader.proofs.code_area.by_first.Goals as goal

pub returns-clause-rise : goal.returns-clause-rise
returns-clause-rise c =
    IsNonDecreasingBy-from_sort_by_key (λ (r : Range). r.first) _ c.in_ok-sort_by_key.ensures.sorted (λ a r q k. search rules)
