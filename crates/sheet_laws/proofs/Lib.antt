pub mod PartLaws
pub mod FittedLaws
pub mod SheetLaws
pub mod Accepted
