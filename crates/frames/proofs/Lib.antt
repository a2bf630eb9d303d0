pub mod Examples
pub mod FrameLaws
