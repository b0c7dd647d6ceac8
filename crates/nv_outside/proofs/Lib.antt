pub mod ReadLemmas
pub mod FilesLemmas
pub mod WriteLemmas
pub mod SeenLemmas
