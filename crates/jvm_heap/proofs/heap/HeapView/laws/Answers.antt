use Rattle.jvm_heap.proofs.Viewing as laws
use Rattle.jvm_heap.proofs.heap.HeapView.laws.Goals as goal

pub returns-clause-written_is_readable : goal.returns-clause-written_is_readable
returns-clause-written_is_readable c = λ s. laws.written_is_readable s.memory

pub returns-clause-ends : goal.returns-clause-ends
returns-clause-ends c = λ s. laws.memory_ends s.memory

pub returns-clause-readable_stays : goal.returns-clause-readable_stays
returns-clause-readable_stays c = λ s. laws.readable_stays s.memory

pub returns-clause-writable_stays : goal.returns-clause-writable_stays
returns-clause-writable_stays c = λ s. laws.writable_stays s.memory

pub returns-clause-reads_by_pages : goal.returns-clause-reads_by_pages
returns-clause-reads_by_pages c = λ s. laws.reads_by_pages s.memory

pub returns-clause-writes_by_pages : goal.returns-clause-writes_by_pages
returns-clause-writes_by_pages c = λ s. laws.writes_by_pages s.memory
