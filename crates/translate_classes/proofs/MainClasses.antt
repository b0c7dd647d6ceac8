pub mod RiseLemmas
pub mod FieldLemmas
pub mod CalledLemmas
pub mod NameLemmas
pub mod OtherLemmas
pub mod ClassLemmas
