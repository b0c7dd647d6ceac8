pub mod LexicalLemmas
pub mod NumberLemmas
pub mod LineLemmas
pub mod MemoryLemmas
pub mod OperandLemmas
pub mod LabelLemmas
