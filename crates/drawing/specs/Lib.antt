pub mod Drawing
pub mod Reading
pub mod Sequences
pub mod Inner
