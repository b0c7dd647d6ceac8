pub mod Word
pub mod Given
pub mod Forms
pub mod Answers
pub mod Builder
