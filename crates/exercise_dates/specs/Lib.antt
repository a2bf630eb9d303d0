pub mod Dates
pub mod inside
