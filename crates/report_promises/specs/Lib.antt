pub mod ReportPromises
