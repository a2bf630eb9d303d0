pub mod WriterKept
