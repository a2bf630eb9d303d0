pub mod SpacingLaws
pub mod VersionLaws
pub mod Examples
