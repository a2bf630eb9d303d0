pub mod ErrorBound
pub mod inside
