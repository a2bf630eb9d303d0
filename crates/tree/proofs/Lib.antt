pub mod StepLaws
pub mod LayoutLaws
pub mod ChanceLaws
