pub mod RecordFit
pub mod JobPrices
pub mod inside
