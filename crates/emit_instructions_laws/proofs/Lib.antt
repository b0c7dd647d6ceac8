pub mod InstructionLaws
mod AccessLaws
pub mod UnitLaws
pub mod PieceLaws
mod UnitCounts
