pub mod Files
pub mod Parts
pub mod Inner
