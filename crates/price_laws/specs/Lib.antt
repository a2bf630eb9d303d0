pub mod Prices
pub mod Exact
pub mod Strips
pub mod inside
