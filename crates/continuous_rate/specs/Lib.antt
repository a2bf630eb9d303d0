pub mod Least
pub mod ContinuousRate
pub mod inside
