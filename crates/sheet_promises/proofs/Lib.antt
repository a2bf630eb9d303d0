pub mod JobMeantKept
pub mod JobCausesKept
pub mod SheetKept
