pub mod Quotes
