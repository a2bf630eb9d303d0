pub mod Pair
pub mod PairCauses
pub mod PairPrices
pub mod inside
