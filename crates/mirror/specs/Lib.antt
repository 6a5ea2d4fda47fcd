pub mod Mirror
pub mod Steps
