pub mod PageLemmas
pub mod FileLemmas
