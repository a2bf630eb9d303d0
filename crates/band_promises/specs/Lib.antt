pub mod BandPromises
