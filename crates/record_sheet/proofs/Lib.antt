pub mod AnswerLaws
mod DrawLaws
mod NumberLaws
