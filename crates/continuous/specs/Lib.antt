pub mod Continuous
