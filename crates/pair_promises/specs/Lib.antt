pub mod Causes
pub mod PairPromises
