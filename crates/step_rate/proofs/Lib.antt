pub mod RateLaws
pub mod Examples
