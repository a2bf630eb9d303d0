pub mod WriterPromises
