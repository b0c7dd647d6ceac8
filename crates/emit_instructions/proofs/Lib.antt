pub mod Forms
pub mod InstructionForms
pub mod UnitForms
