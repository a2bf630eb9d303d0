pub mod BookPromises
