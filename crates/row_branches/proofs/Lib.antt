pub mod BranchLaws
pub mod TableParts
