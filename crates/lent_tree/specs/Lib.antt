pub mod LentTree
pub mod inside
