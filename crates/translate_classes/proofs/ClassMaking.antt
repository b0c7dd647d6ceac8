pub mod ZipLemmas
pub mod MakingLemmas
pub mod NamingLemmas
pub mod GrowingLemmas
