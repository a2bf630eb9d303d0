pub mod Divisor
pub mod QuoteLaws
pub mod YieldLaws
pub mod Examples
