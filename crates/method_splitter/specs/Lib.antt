pub mod Cuts
pub mod Shares
pub mod Laws
