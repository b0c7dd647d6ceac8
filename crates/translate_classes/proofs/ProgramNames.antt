pub mod NamedLemmas
pub mod MentionLemmas
