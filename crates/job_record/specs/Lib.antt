pub mod Bytes
pub mod Form
pub mod Reader
pub mod Grammar
pub mod Example
pub mod inside
