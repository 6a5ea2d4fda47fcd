pub mod Rounding
pub mod Values
pub mod Over
pub mod Exact
pub mod Measures
pub mod Patterns
pub mod Cases
pub mod Unique
