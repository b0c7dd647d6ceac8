pub mod Memory
pub mod Question
pub mod Answer
pub mod Turn
pub mod Run
pub mod Words
