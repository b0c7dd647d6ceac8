pub mod Writing
pub mod Answer
pub mod Order
