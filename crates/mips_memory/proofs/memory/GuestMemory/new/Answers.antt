use Rattle.mips_memory.proofs.MapLemmas.{IsSound-empty, memory_of-empty}
use Rattle.mips_memory.proofs.memory.GuestMemory.new.Goals as goal

pub invariant_of-result : goal.invariant_of-result
invariant_of-result c = IsSound-empty c.in_ok-no_pages.field-0.items c.in_ok-with_capacity.field-0.items c.in_ok-no_pages.ensures.size c.in_ok-no_pages.ensures.empty c.in_ok-with_capacity.ensures.items

pub returns : goal.returns
returns c = memory_of-empty c.in_ok-no_pages.field-0.items c.in_ok-with_capacity.field-0.items c.in_ok-no_pages.ensures.empty
