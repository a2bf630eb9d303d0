pub mod Fit
pub mod Entry
pub mod inside
