pub mod Examples
pub mod Yields
pub mod Sheets
pub mod Versions
