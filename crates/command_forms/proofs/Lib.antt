pub mod FormRules
pub mod FormWalk
pub mod FormReads
pub mod WordLemmas
pub mod MatchLemmas
pub mod EndLemmas
