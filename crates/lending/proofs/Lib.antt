pub mod LendingLaws
pub mod Examples
