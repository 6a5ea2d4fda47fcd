pub mod Cases
pub mod Controls
pub mod Copied
pub mod InPlace
pub mod Runs
pub mod Fresh
pub mod Splines
