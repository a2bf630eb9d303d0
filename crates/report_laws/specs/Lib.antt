pub mod Reports
pub mod Joins
pub mod FileReports
