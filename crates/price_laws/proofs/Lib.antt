pub mod AnswerLaws
pub mod Accuracy
pub mod ValueLaws
pub mod OptionLaws
pub mod RightsLaws
pub mod StripLaws
