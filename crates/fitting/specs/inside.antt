pub mod Rows
pub mod Preconditions
pub mod Plans
pub mod TableFit
