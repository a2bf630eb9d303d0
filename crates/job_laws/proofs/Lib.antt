pub mod FitLaws
pub mod Accepted
pub mod FitMemories
pub mod PriceLaws
