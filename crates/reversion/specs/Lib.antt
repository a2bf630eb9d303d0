pub mod Reversion
