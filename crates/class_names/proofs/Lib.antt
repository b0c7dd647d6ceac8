pub mod PlaceLemmas
pub mod NumberLemmas
pub mod MemberLemmas
pub mod KeyLemmas
pub mod FaultLemmas
pub mod KeptLemmas
