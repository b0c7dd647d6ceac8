pub mod Alike
pub mod Framed
pub mod Like
