pub mod SumLaws
pub mod SoundLaws
pub mod JoinLaws
pub mod FileReportLaws
