pub mod ListLemmas
pub mod TellingLemmas
pub mod RisingLemmas
