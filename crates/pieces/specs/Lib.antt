pub mod Tree
pub mod Walk
pub mod Values
pub mod Steps
pub mod Scan
pub mod Inner
