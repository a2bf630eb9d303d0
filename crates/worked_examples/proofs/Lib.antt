pub mod Starred
pub mod YieldExamples
pub mod SheetExamples
pub mod VersionExamples
