pub mod ListingLemmas
pub mod AssemblyLemmas
pub mod ImagingLemmas
pub mod ClassLemmas
pub mod DueLemmas
