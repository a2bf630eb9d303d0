pub mod Pricer
pub mod Schedule
pub mod TreePricer
pub mod Peak
pub mod inside
