pub mod Examples
pub mod PathLemmas
pub mod ReadLemmas
pub mod RoomLemmas
pub mod WriteLemmas
