pub mod Shape
pub mod Branching
pub mod RateTree
pub mod Entries
