pub mod BookKept
