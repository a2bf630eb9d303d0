pub mod TreePrices
