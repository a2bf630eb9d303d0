pub mod BoundLaws
pub mod OpenLaws
pub mod FileLaws
pub mod WrittenLaws
pub mod TotalLaws
pub mod TallyLaws
pub mod ReachedLaws
pub mod ReportLaws
