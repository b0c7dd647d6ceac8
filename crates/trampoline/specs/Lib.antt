pub mod Trees
pub mod Choosers
