mod Computations
mod StepExamples
pub mod Moving
pub mod Stretches
pub mod Turning
pub mod KindTrials
pub mod KindLaws
pub mod HeapLaws
pub mod ShuffleLaws
pub mod TakingLaws
pub mod EffectLaws
pub mod StepLaws
pub mod RunSafety
pub mod OperandLaws
pub mod SafetyExamples
