pub mod TreeSheet
pub mod WholeJob
pub mod inside
