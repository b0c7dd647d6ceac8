pub mod Loading
pub mod Pages
pub mod OneWord
pub mod ByteList
pub mod Ops
pub mod CodeChunks
