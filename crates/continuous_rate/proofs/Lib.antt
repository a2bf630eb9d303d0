pub mod LeastLaws
pub mod Near
pub mod Window
pub mod Candidates
pub mod RateLaws
pub mod Examples
