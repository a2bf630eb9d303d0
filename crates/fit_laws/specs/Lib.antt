pub mod Step
pub mod StatePrices
pub mod inside
