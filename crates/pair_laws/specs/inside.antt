pub mod Accepted
pub mod Square
pub mod States
