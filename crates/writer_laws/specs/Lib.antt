pub mod Sound
pub mod Writer
pub mod inside
