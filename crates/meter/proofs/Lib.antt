pub mod GuardForms
pub mod GuardSizes
