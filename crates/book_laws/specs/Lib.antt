pub mod Bounds
pub mod Books
pub mod Files
pub mod Report
pub mod Totals
pub mod Reached
pub mod inside
