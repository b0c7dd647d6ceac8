pub mod Starting
pub mod LoadLemmas
pub mod BeginLemmas
pub mod OpeningLemmas
pub mod TurnLemmas
pub mod CountLemmas
