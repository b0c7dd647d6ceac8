pub mod Instructions
pub mod Shapes
pub mod Halves
pub mod Program
pub mod Passes
pub mod Fillings
pub mod Answers
pub mod File
