pub mod Kept
pub mod Numbers
pub mod Keys
pub mod MemberMap
pub mod Answer
