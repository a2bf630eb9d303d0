pub mod BoundLaws
pub mod Meaning
pub mod Examples
