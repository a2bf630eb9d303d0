pub mod PriceBound
pub mod inside
