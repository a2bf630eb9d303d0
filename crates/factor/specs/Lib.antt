pub mod Series
pub mod Factor
