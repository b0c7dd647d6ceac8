pub mod TestLemmas
pub mod StackLemmas
pub mod FrameLemmas
pub mod KeyLemmas
