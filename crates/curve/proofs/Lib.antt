pub mod CurveLaws
pub mod Examples
