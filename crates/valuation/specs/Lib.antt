pub mod Entries
pub mod inside
