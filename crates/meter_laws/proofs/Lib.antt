pub mod CountedCode
pub mod UnitGuards
pub mod GuardCounts
