pub mod Tables
pub mod Meaning
pub mod Last
pub mod Shortest
pub mod Written
pub mod Forms
