pub mod Judging
pub mod Flowing
pub mod Bodies
pub mod Knowing
pub mod Methods
pub mod Spans
pub mod Laws
