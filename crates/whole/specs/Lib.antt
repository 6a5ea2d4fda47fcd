pub mod Nearest
pub mod Outcome
pub mod Unique
pub mod Inner
