pub mod VerifyLaws
pub mod TypingLaws
