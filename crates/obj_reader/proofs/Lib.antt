pub mod SizeLemmas
pub mod TableLemmas
pub mod FindLemmas
pub mod SectionLemmas
pub mod FaultLemmas
pub mod ObjectLemmas
