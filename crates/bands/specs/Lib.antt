pub mod Search
pub mod Bands
pub mod Faults
pub mod SoundBand
pub mod Stops
pub mod Judged
pub mod inside
