pub mod HeapLaws
pub mod AccessLaws
pub mod SafetyLaws
pub mod Viewing
