pub mod SizeLaws
pub mod TableSteps
pub mod MadeLaws
pub mod Kept
pub mod TypedLaws
pub mod Steps
pub mod Within
pub mod DeterminedLaws
