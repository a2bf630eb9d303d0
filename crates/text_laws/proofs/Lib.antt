pub mod PutLaws
pub mod DecimalLaws
pub mod Signs
pub mod LineLaws
pub mod Examples
pub mod WordLineLaws
