pub mod Answers
pub mod CausesKept
pub mod OneTree
pub mod PairKept
