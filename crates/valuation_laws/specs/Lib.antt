pub mod Valuation
