pub mod JobMeant
pub mod JobCauses
pub mod SheetPromises
