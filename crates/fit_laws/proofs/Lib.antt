pub mod StepLaws
pub mod Repricing
pub mod Shortfall
pub mod WholeFit
pub mod FitRows
