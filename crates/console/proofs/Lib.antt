pub mod Digits
pub mod Examples
pub mod Put
