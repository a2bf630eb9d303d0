pub mod Rows
pub mod Strips
pub mod Trees
