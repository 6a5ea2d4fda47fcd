pub mod Worked
pub mod Rows
pub mod Unique
pub mod Exactly
pub mod Passed
