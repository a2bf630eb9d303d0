pub mod ReportKept
