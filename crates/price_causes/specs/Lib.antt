pub mod Causes
pub mod inside
