pub mod KindOrder
pub mod Joining
pub mod Flow
pub mod Standing
pub mod Passing
pub mod Looping
pub mod Assembling
pub mod Framed
