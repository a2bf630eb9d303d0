pub mod SeriesLaws
pub mod Examples
pub mod Bounds
pub mod SumsLaws
pub mod FactorLaws
pub mod NodeLaws
pub mod SideLaws
