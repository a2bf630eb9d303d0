pub mod CauseLaws
pub mod Promised
pub mod FittedTree
pub mod VersionLaws
