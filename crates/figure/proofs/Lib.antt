pub mod Scaling
pub mod Patterns
pub mod FigureLaws
pub mod Examples
