pub mod NodeLaws
pub mod KindLaws
