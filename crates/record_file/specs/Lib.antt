pub mod Format
pub mod Rows
pub mod Inner
