pub mod PoolLemmas
pub mod KeptLemmas
