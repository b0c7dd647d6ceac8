mod Calling
mod Mirrored
mod Units
mod Steps
mod Words
mod MeteredWords
mod Above
pub mod Programs
mod Setting
