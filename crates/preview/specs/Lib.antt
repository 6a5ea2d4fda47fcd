pub mod Halving
pub mod Preview
