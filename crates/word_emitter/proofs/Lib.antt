pub mod RegisterLemmas
mod SetLemmas
