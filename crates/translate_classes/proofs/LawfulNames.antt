pub mod MemberLemmas
pub mod CharacterLemmas
pub mod TextLemmas
pub mod OtherLemmas
