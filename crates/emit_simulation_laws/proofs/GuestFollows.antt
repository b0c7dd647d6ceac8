pub mod Weights
pub mod Elsewhere
pub mod Outcomes
pub mod Ends
pub mod Calls
pub mod CodeLaws
