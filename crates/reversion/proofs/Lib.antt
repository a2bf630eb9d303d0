pub mod ReversionLaws
pub mod EntryLaws
pub mod Examples
