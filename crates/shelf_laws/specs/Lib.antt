pub mod Parts
pub mod Shelf
