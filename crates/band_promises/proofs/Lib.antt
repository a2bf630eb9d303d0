pub mod CoverLaws
pub mod BandKept
