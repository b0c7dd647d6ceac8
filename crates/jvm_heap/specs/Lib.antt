pub mod Regions
pub mod HeapForms
pub mod Heaps
