pub mod FirstLaws
pub mod StopLaws
pub mod TestLaws
pub mod VerdictLaws
pub mod SoundLaws
pub mod Meaning
pub mod FaultLaws
