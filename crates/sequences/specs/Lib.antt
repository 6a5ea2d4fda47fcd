pub mod Touched
pub mod Played
pub mod Calls
