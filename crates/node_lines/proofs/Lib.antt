pub mod RowLaws
pub mod LineLoop
pub mod ReadingLaws
