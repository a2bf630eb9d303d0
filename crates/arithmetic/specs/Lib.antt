pub mod Rounding
pub mod Sum
pub mod Row
pub mod Power
pub mod Answers
pub mod Frequency
pub mod Within
pub mod Refusals
