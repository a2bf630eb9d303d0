pub mod Limits
pub mod WithinLimits
