pub mod Exact
pub mod Midpoint
pub mod Number
