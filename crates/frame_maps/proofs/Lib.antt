pub mod FramedLaws
pub mod WalkLaws
pub mod PlacingLaws
pub mod CheckLaws
