pub mod RowBranches
pub mod inside
