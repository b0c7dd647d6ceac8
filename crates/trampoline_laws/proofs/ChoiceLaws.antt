pub mod Tests
pub mod Passing
pub mod Chosen
pub mod Trees
pub mod Choosers
pub mod Metered
pub mod Weighing
pub mod Calls
