pub mod NameLemmas
pub mod FormLemmas
pub mod TextLemmas
pub mod EntryLaws
pub mod PoolLemmas
pub mod ReadingLemmas
pub mod SlotLemmas
