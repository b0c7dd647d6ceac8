pub mod ChainLemmas
pub mod LaidLemmas
pub mod WriteLemmas
pub mod AppendLemmas
pub mod CutLemmas
pub mod FileLemmas
pub mod DiskLemmas
pub mod ReadLemmas
