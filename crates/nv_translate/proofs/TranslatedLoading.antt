pub mod Planned
pub mod Pages
pub mod Fillers
pub mod Beginning
pub mod Others
